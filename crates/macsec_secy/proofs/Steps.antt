-- What the verdict on a frame shows about the step that decided.
use Rattle.std.proofs.lemmas.List.{set-get_or}
use Rattle.macsec_secy.{
  proofs.{
    Names.{[], ◌∙◌, ◌∷◌, ◌≡◌, ap, at_channel, BadTag, Bool, ChannelCounters, count_in_channel, count_packet},
    Names.{count_verdict, counted_at_place, Counters, counters_at, false, if◌then◌else◌, Judgement, List, map, Mode},
    Names.{nat_le, None, not, Option, option_map, packet_counted, place_of, Reading, refl, rx_packet_counted},
    Names.{RxCounters, same_sci, Sci, set, Some, State, sym, true, ℕ},
    JudgedBy.{JudgedBy, step_7, step_9, step_10, step_11, step_13},
  },
  specs.Verdicts.is_opened,
}

-- the verdict and the mode of validation determine which counters the frame raises
pub record Tells (mode : Mode) (j : Judgement) : Type 0 where
  pub packet : (c : Counters) → packet_counted j c ≡ count_packet j.verdict c
  pub channel : (rows : List ChannelCounters) → rx_packet_counted j rows ≡ counted_at_place j.verdict (option_map place_of j.row) rows
  pub opened : nat_le 11 j.step ≡ is_opened mode j.verdict

-- no SC and no SA counts a frame with the verdict BadTag
bad_tag_uncounted : (an : ℕ) (row : ChannelCounters) → row ≡ count_in_channel BadTag an row
bad_tag_uncounted an row =
    ap {B = ChannelCounters} (λ associations. record row { associations = associations })
    (sym (ap (set row.associations an) (by_counters (counters_at row.associations an)) ∙ set-get_or row.associations an None))
  where
    by_counters : (o : Option RxCounters) → option_map (count_verdict BadTag) o ≡ o
    by_counters None = refl
    by_counters (Some c) = refl

bad_tag_counted_elsewhere : (sci : Sci) (an : ℕ) (rows : List ChannelCounters) → rows ≡ map (at_channel (count_in_channel BadTag an) sci) rows
bad_tag_counted_elsewhere sci an [] = refl
bad_tag_counted_elsewhere sci an (row ∷ rows) = by_test (same_sci row.sci sci) (bad_tag_counted_elsewhere sci an rows)
  where
    by_test : (test : Bool) → rows ≡ map (at_channel (count_in_channel BadTag an) sci) rows →
        row ∷ rows ≡ (if test then count_in_channel BadTag an row else row) ∷ map (at_channel (count_in_channel BadTag an) sci) rows
    by_test true later = ap (λ r. r ∷ rows) (bad_tag_uncounted an row) ∙ ap (λ rs. count_in_channel BadTag an row ∷ rs) later
    by_test false later = ap (λ rs. row ∷ rs) later

pub tells_by : (s : State) (frame : List ℕ) (r : Reading) (j : Judgement) → JudgedBy s frame r j → Tells s.options.mode j
tells_by s frame r j (step_7 {sa = row} used) = record { packet = λ c. refl; channel = bad_tag_counted_elsewhere row.sci row.an; opened = refl }
tells_by s frame r j (step_9 it disabled) = record { packet = λ c. refl; channel = λ rows. refl; opened = ap (λ b. not b) (sym disabled) }
tells_by s frame r j (step_10 it disabled true) = record { packet = λ c. refl; channel = λ rows. refl; opened = ap (λ b. not b) (sym disabled) }
tells_by s frame r j (step_11 it validates) = record { packet = λ c. refl; channel = λ rows. refl; opened = ap (λ b. not b) (sym validates) }
tells_by s frame r j (step_13 it validates opens true) = record { packet = λ c. refl; channel = λ rows. refl; opened = ap (λ b. not b) (sym validates) }
tells_by s frame r j _ = record { packet = λ c. refl; channel = λ rows. refl; opened = refl }
