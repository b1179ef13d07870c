-- Once, within one run of an endpoint that renews keys.
use Rattle.std.specs.Prelude.{◌≡◌, ◌<◌, ◌⊎◌, ℕ, List, ◌∷◌, take, true, Contains}
use Rattle.std.specs.List.{All}
use Rattle.macsec_secy.specs.Sound.{IsSound}
use Rattle.macsec_reserve.specs.Keeping.{KeepingInput}
use Rattle.macsec_reserve.specs.Replay.{KeepsAssociation}
use Rattle.macsec_ahead.specs.Ahead.{Ahead}
use Rattle.macsec_restarts.specs.AheadRuns.{AreOfOneSa, newly_accepted, newly_delivered_with}
use Rattle.macsec_restarts.specs.Delivered.{Delivery}
use Rattle.macsec_restarts.specs.RenewingRuns.{ahead_renewing_after}

-- an endpoint beside a journal, sound at each moment, accepts a frame. After more inputs, of any kind, it delivers a
-- frame on the same SA, valid or not, while replay protection is on and the replay window is 0. The later frame has the
-- higher packet number, if the window was 0 at the earlier frame too, or no input between them deletes the SA
abbrev pub DeliversAboveAccepted : Ahead → KeepingInput → List KeepingInput → KeepingInput → Type 0
DeliversAboveAccepted a input inputs last =
    let now = ahead_renewing_after a (input ∷ inputs) in
    a.k.keeps ≡ true → ((n : ℕ) → IsSound (ahead_renewing_after a (take n (input ∷ inputs))).k.secy) →
    now.k.secy.options.replay ≡ true → now.k.secy.options.window ≡ 0 →
    (d e : Delivery) → Contains (newly_accepted a input) d → Contains (newly_delivered_with now last) e →
    AreOfOneSa d e → (a.k.secy.options.window ≡ 0) ⊎ All (KeepsAssociation d.sci d.an) inputs → d.number < e.number
