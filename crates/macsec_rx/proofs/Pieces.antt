-- The index of an SC: the search for it piece by piece, and the SC that is there.
use Rattle.std.proofs.{
  Common.{◌≡◌, ◌∙◌, ◌≤◌, ◌+◌, ℕ, zero, suc, Bool, true, false, List, [], ◌∷◌, length, take, drop, drop-drop},
  Common.{length-drop, refl, sym, ap, arith, ◌||◌, if◌then◌else◌, slice_get, option_map, Option, Some, None, IfSome},
  lemmas.Bool.or_parts,
}
use Rattle.macsec_tag.specs.declared.identifiers.Sci.{Sci}
use Rattle.macsec_rx.{
  proofs.Scis.one_sci,
  specs.{
    Channels.same_sci,
    Commands.has_channel,
    Index.{channel_place, row_of_found},
    Judge.place_of,
    declared.{RxRow.RxRow, channels.Found.Found},
  },
}

-- an SCI that the first n SCs do not have is looked for after them
pub past_piece : (scis : List Sci) (sci : Sci) (n : ℕ) → n ≤ length scis → has_channel (take n scis) sci ≡ false →
    (has_channel scis sci ≡ has_channel (drop n scis) sci) × (channel_place scis sci ≡ n + channel_place (drop n scis) sci)
past_piece scis sci zero fits none = (refl, omega arith)
past_piece [] sci (suc n) fits none = absurd (omega (arith, fits))
past_piece (s ∷ scis) sci (suc n) fits none =
    let parts = or_parts (same_sci s sci) (has_channel (take n scis) sci) none in
    let later = past_piece scis sci n (omega (arith, fits)) parts.1 in
    rw parts.0 (later.0, omega (arith, later.1))

-- an SCI that the first pieces and the next one do not have is looked for after that
pub next_piece : (scis : List Sci) (sci : Sci) (at n after : ℕ) → at + n ≤ length scis → after ≡ at + n → has_channel (take n (drop at scis)) sci ≡ false →
    has_channel scis sci ≡ has_channel (drop at scis) sci → channel_place scis sci ≡ at + channel_place (drop at scis) sci →
    (has_channel scis sci ≡ has_channel (drop after scis) sci) × (channel_place scis sci ≡ after + channel_place (drop after scis) sci)
next_piece scis sci at n after fits is none there place =
    let past = past_piece (drop at scis) sci n (omega (arith, length-drop at scis, fits)) none in
    let behind : drop n (drop at scis) ≡ drop after scis = drop-drop n at scis ∙ ap (λ m. drop m scis) (omega (arith, is)) in
    (there ∙ past.0 ∙ ap (λ rest. has_channel rest sci) behind, omega (arith, place, past.1, is, ap (λ rest. channel_place rest sci) behind))

-- the SC at the index of an SCI has that SCI
pub slice_get-channel_place : (scis : List Sci) (sci : Sci) → has_channel scis sci ≡ true → slice_get scis (channel_place scis sci) ≡ Some sci
slice_get-channel_place [] sci there = cc
slice_get-channel_place (s ∷ scis) sci there = by_test (same_sci s sci) refl (λ h. slice_get-channel_place scis sci h) there
  where
    by_test : (b : Bool) → same_sci s sci ≡ b → (has_channel scis sci ≡ true → slice_get scis (channel_place scis sci) ≡ Some sci) →
        (b || has_channel scis sci) ≡ true → slice_get (s ∷ scis) (if b then 0 else suc (channel_place scis sci)) ≡ Some sci
    by_test true same later there' = ap Some (one_sci s sci same)
    by_test false other later there' = later there'

-- what was judged for the SA that was found has the SCI of the SC at its position
pub channel_found : (scis : List Sci) (found : Option Found) (row : Option RxRow) (channel : ℕ) (judged : Option (Sci × ℕ)) → row ≡ option_map row_of_found found →
    IfSome judged (λ at. option_map place_of row ≡ Some at) → IfSome found (λ f. channel ≡ f.channel) → IfSome found (λ f. slice_get scis f.channel ≡ Some f.row.sci) →
    IfSome judged (λ at. slice_get scis channel ≡ Some at.0)
channel_found scis found row channel None is same at there = tt
channel_found scis None row channel (Some judged) is same at there = absurd (let no = sym (ap (option_map place_of) is) ∙ same in cc)
channel_found scis (Some found) row channel (Some judged) is same at there =
    let one : place_of found.row ≡ judged = let e = sym (ap (option_map place_of) is) ∙ same in cc in
    ap (slice_get scis) at ∙ there ∙ ap (λ (place : Sci × ℕ). Some place.0) one
