-- The runs in which a key of 32 octets is renewed meet all premises of order, under each of the two keys.
use Rattle.macsec_restarts.proofs.Examples.Blocks.{EndRun, sealed_in}
use Rattle.macsec_restarts.proofs.Examples.Histories.{Facts, facts_of, IsRunOf, Meets, meets_all, meets_by, MeetsAll}
use Rattle.macsec_restarts.proofs.Examples.Histories.{never, of_run, one, without_option}
use Rattle.macsec_restarts.proofs.Examples.LongKeys.{bytes, commands, config_of, delivery, link, own_kind, sent_1}
use Rattle.macsec_restarts.proofs.Examples.LongKeys.{use_1}
use Rattle.macsec_restarts.proofs.Examples.Renews.{a_does, b_does, delivery_2, inputs_a, link_2, octets_2, sent_2}
use Rattle.macsec_restarts.proofs.Examples.Renews.{then_b, use_2}
use Rattle.macsec_restarts.proofs.Examples.Without.{NoPremise}
use Rattle.macsec_restarts.proofs.Names.{[], ◌++◌, ◌∷◌, A, arith, B, client, Contains, delivered_at, false}
use Rattle.macsec_restarts.proofs.Names.{journal, List, map, numbered_delivery, numbered_sent, one_alone, refl, Run}
use Rattle.macsec_restarts.proofs.Names.{sci_a, sci_b, sent_under, ℕ}
use Rattle.macsec_restarts.specs.AheadRuns.{AreOfOneSa}
use Rattle.macsec_restarts.specs.RenewingOrder.{KeepsDeliveredWith, KeepsSentWith}

abbrev run_a : Run
run_a = record { journal = journal false []; config = config_of sci_a; inputs = inputs_a }

abbrev run_b : Run
run_b = record {
  journal = journal false [];
  config = config_of sci_b;
  inputs = commands ++ (link ∷ (then_b ++ link_2 ∷ []));
}

abbrev its : List EndRun
its = (A, run_a) ∷ (B, run_b) ∷ []

a_goes : Facts (own_kind 1) sci_a NoPremise [] (without_option run_a) (sent_1 ∷ sent_2 ∷ []) []
a_goes = facts_of refl a_does

sealed_1 : Contains (sealed_in never ((A, run_a) ∷ [])) use_1
sealed_1 = rw a_goes.told.sends (0, omega arith, refl)

sealed_2 : Contains (sealed_in never ((A, run_a) ∷ [])) use_2
sealed_2 = rw a_goes.told.sends (1, omega arith, refl)

b_goes : Facts (own_kind 2) sci_b NoPremise (sealed_in never ((A, run_a) ∷ [])) (without_option run_b) []
    (delivery ∷ delivery_2 ∷ [])
b_goes = facts_of refl (b_does sealed_1 sealed_2)

it_meets : Meets NoPremise never its (sent_1 ∷ sent_2 ∷ []) (delivery ∷ delivery_2 ∷ [])
it_meets = meets_by (own_kind 1) (own_kind 2) (record { suite = λ d. refl; salt = λ d xpn. refl }) (λ d. (refl, refl))
    (one (IsRunOf (own_kind 1) sci_a) (without_option run_a) (of_run a_goes))
    (one (IsRunOf (own_kind 2) sci_b) (without_option run_b) (of_run b_goes)) (tt, (b_goes.told.fair, tt))
    (rw a_goes.told.sends) (rw b_goes.told.delivers)

under : (key : List ℕ) → MeetsAll never its key
    (map numbered_sent (sent_under key (sent_1 ∷ sent_2 ∷ [])))
    (map numbered_delivery (delivered_at key sci_a 0 (delivery ∷ delivery_2 ∷ [])))
under key = meets_all never its key it_meets (one_alone (KeepsSentWith key) (without_option run_a))
    (one_alone (KeepsDeliveredWith key sci_a 0) (without_option run_b))

-- under the first key, and under the one that takes its number
pub renews_first : MeetsAll never its bytes ((1 ∷ client 1) ∷ []) ((1 ∷ client 1) ∷ [])
renews_first = under bytes

pub renews_second : MeetsAll never its octets_2 ((1 ∷ client 1) ∷ []) ((1 ∷ client 1) ∷ [])
renews_second = under octets_2

-- ---- two frames of one SA may have other client frames

pub of_one_sa : (frame : List ℕ) → AreOfOneSa delivery (record delivery { frame = frame })
of_one_sa frame = record { bytes = refl; sci = refl; an = refl }
