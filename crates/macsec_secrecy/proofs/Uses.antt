-- The uses of the cipher in a run: IVs of 12 octets, and ciphertexts of octets, shorter than a link frame.
use Rattle.{
  std.proofs.{
    Common.{◌≡◌, ◌≢◌, ℕ, ◌+◌, ◌*◌, ◌<◌, ◌≤◌, List, [], ◌∷◌, ◌++◌, length, take, get_or, slice_get, Some, All, AllPairs},
    Common.{true, sym, ap, subst, ◌∙◌, arith, length-append, length-drop, get_or-append-add, take_all},
    lemmas.{
      Bool.cond_both,
      List.{get_or_append_left, Elements.{All-cons, All-contains, All-drop, All-filter, All-map, All-nil, All-weaker}},
      Option.{get_or_from_slice_get, slice_get-get_or, slice_get_within},
    },
  },
  std.specs.Int.{w32, to_be_bytes},
  macsec_gcm.{proofs.KeyStreams.length-sum_with_stream, specs.Octets.same_octets},
  macsec_tag.specs.{Frame.{MpduParts, in_a_row}, Laws.AreOctets, Tag.encoding, declared.identifiers.Sci.Sci},
  macsec_suite.specs.{
    CipherUses.{CipherUse, cipher_use},
    KeyRows.{AreKeyRows, InstalledKey, IsKeyRow, the_key},
    Parts.clear_length,
    Suites.{is_xpn, iv_of},
    declared.suite.Suite.Suite,
  },
  macsec_commands.specs.declared.{config.EndConfig.EndConfig, event.{End.{End, TheVariants.{A, B}}, Event.Event}},
  macsec_link.proofs.{SealedUses.{each_seal, ivs_apart}, Within.{data_octets, on_the_link}},
  macsec_link.specs.{
    Beginnings.AreSound,
    Promises.KeepsPromises,
    Sound.IsSound,
    Step.world_after,
    Trace.{Sent, trace_of},
    UniqueIvs.{IsUseFor, RepeatsNoIv, SealsEachFrame, parts_made, state_at},
    World.{WorldState, end_of, new_world},
  },
  macsec_secrecy.{
    proofs.Inputs.{inputs_of_uses_differ, number_of_inputs},
    specs.{Inputs.IsUse, Runs.{NoInputTwice, NumberOfInputs, UsesNoIvTwice, sealed_under}},
  },
}
use Rattle.macsec_secy.specs.Sound as endpoint

abbrev pub Promises : Type 0
Promises = (a b : EndConfig) (events : List Event) → AreSound a b events → KeepsPromises a b events

pub promised_to_all : (a b : EndConfig) (events : List Event) (law : EndConfig → EndConfig → List Event → Type 0)
    → ((k : ℕ) → law a b (take k events)) → law a b events
promised_to_all a b events law each = subst (law a b) (take_all _ events (omega arith)) (each (length events))

sound_to_all : (a b : EndConfig) (events : List Event) → AreSound a b events
    → IsSound (world_after (new_world a b) events)
sound_to_all a b events sounds =
    subst (λ es. IsSound (world_after (new_world a b) es)) (take_all (length events) events (omega arith))
    (sounds (length events))

-- ---- IVs

pub iv_long : (suite : Suite) (sci : Sci) (ssci : ℕ) (salt : List ℕ) (pn : ℕ) → length sci.0 ≡ 8
    → (is_xpn suite ≡ true → length salt ≡ 12) → length (iv_of suite sci ssci salt pn) ≡ 12
iv_long suite sci ssci salt pn eight twelve =
    cond_both _ _ _ (λ iv. length iv ≡ 12) (λ e. length-sum_with_stream salt _ ∙ twelve e)
    (λ e. length-append sci.0 (to_be_bytes w32 pn) ∙ ap (λ n. n + 4) eight)

all_rows : (keys : List InstalledKey) → AreKeyRows keys → All IsKeyRow keys
all_rows [] are = All-nil IsKeyRow
all_rows (k ∷ keys) are = All-cons IsKeyRow k keys are.0 (all_rows keys are.2)

sound_end : (w : WorldState) → IsSound w → (e : End) → endpoint.IsSound (end_of w e).state
sound_end w sound A = sound.a.endpoint
sound_end w sound B = sound.b.endpoint

-- ---- ciphertexts

-- what the link carries of a use
pub record IsCarried (bound : ℕ) (u : CipherUse) : Type 0 where
  pub iv : length u.iv ≡ 12
  pub octets : AreOctets u.ciphertext
  pub fits : length u.ciphertext ≤ bound

data_fits : (p : MpduParts) (n : ℕ) → length (in_a_row p) ≤ n → length p.secure_data ≤ n
data_fits p n fits =
    let before = p.da ++ p.sa ++ encoding p.tag in
    omega (
      arith,
      length-append (before ++ p.secure_data ++ p.icv) p.padding,
      length-append (before ++ p.secure_data) p.icv,
      length-append before p.secure_data,
      fits,
    )

parts_carried : (n : ℕ) (key : InstalledKey) (iv : List ℕ) (p : MpduParts) → length iv ≡ 12 → AreOctets (in_a_row p)
    → length (in_a_row p) ≤ n → IsCarried n (cipher_use key iv p)
parts_carried n key iv p long octets fits =
    let clear = clear_length key.offset p.tag.e p.secure_data in
    record {
      iv = long;
      octets = All-drop (λ o. o < 256) clear _ (data_octets p octets);
      fits = omega (arith, length-drop clear p.secure_data, data_fits p n fits);
    }

use_carried : (a b : EndConfig) (events : List Event) (bound moment : ℕ) (x : Sent) → AreSound a b events
    → IsSound (world_after (new_world a b) events)
    → All (λ frame. length frame ≤ bound) (world_after (new_world a b) events).frames → IsUseFor a b events moment x
    → IsCarried bound x.seal
use_carried a b events bound moment x sounds sound fits it =
    let frames = (world_after (new_world a b) events).frames in
    let s = state_at a b events moment x.at in
    let key = the_key s.keys it.row.key in
    let p = parts_made s it.row x.frame in
    let here : endpoint.IsSound s = sound_end _ (sounds moment) x.at in
    let end = world_after (new_world a b) events in
    let row : IsKeyRow it.key = All-contains IsKeyRow _ it.key (all_rows _ (sound_end end sound x.at).keys) it.there in
    let salt : length key.salt ≡ 12 = ap length (sym it.later.salt) ∙ row.salt in
    subst (IsCarried bound) (sym it.seal) (parts_carried bound key _ p
    (iv_long _ _ key.ssci key.salt _ here.own_sci.count (λ xpn. salt))
    (on_the_link AreOctets _ _ _ sound.octets it.on_link)
    (on_the_link (λ frame. length frame ≤ bound) _ _ _ fits it.on_link))

pub seals_carried : Promises → (a b : EndConfig) (events : List Event) → AreSound a b events → (bound : ℕ)
    → All (λ frame. length frame ≤ bound) (world_after (new_world a b) events).frames
    → All (IsCarried bound) (trace_of a b events).seals
seals_carried promises a b events sounds bound fits =
    each_seal a b _ (IsCarried bound) (promised_to_all a b events SealsEachFrame (promises a b events sounds).seals)
    (λ moment x it. use_carried a b _ bound _ x sounds (sound_to_all a b events sounds) fits it)

-- ---- under one key

pub carried_under : Promises → (key : List ℕ) (a b : EndConfig) (events : List Event) → AreSound a b events
    → (bound : ℕ)
    → All (λ frame. length frame ≤ bound) (world_after (new_world a b) events).frames
    → All (IsCarried bound) (sealed_under key a b events)
carried_under promises key a b events sounds bound fits =
    All-filter (λ u. same_octets u.key key) (IsCarried bound) _ (seals_carried promises a b events sounds bound fits)

pub frames_fit : (a b : EndConfig) (events : List Event) → AreSound a b events
    → All (λ frame. length frame ≤ 9248) (world_after (new_world a b) events).frames
frames_fit a b events sounds = (sound_to_all a b events sounds).frames

pub ivs_apart_in_run : Promises → (key : List ℕ) (a b : EndConfig) (events : List Event) → UsesNoIvTwice a b events
    → AllPairs (λ s r. s.iv ≢ r.iv) (sealed_under key a b events)
ivs_apart_in_run promises key a b events it =
    ivs_apart key (trace_of a b events).seals
    (promised_to_all a b events RepeatsNoIv (promises a b events it.sound).unique_ivs it.scis it.keys it.sscis)

is_use : (u : CipherUse) → IsCarried 9248 u → IsUse u
is_use u it = record { iv = it.iv; text = (let f = it.fits in omega arith) }

pub no_input_twice : Promises → NoInputTwice
no_input_twice promises a b events it key =
    inputs_of_uses_differ (sealed_under key a b events) (ivs_apart_in_run promises key a b _ it)
    (All-weaker (IsCarried 9248) IsUse is_use (sealed_under key a b events)
    (carried_under promises key a b events it.sound 9248 (frames_fit a b events it.sound)))

pub number_of_inputs_in_runs : Promises → NumberOfInputs
number_of_inputs_in_runs promises a b events sounds m key fits =
    number_of_inputs m (sealed_under key a b events)
    (All-weaker (IsCarried (16 * m)) (λ u. length u.ciphertext ≤ 16 * m) (λ u it. it.fits) (sealed_under key a b events)
    (carried_under promises key a b events sounds _ fits))
