-- A run that meets the premises of the law of acceptance, for a frame as sent and for the padded frame, which shows that
-- the premises can be met.
use Rattle.macsec_counterexamples.proofs.{
  Names.{[], ◌∷◌, ◌≡◌, A, arith, B, Bool, CanAccept, Command, end_of, Event, false, frame_fault, Gcm128, inl, inr},
  Names.{IsOnLink, Key, List, MpduParts, None, Pad, parts_sent, refl, replicate, RxOn, RxRow, RxSa, RxSc, Send},
  Names.{sending_of, Some, State, Suite, the_key, true, tx_options, TxOn, TxRow, TxSa, world_at, WorldState, Xpn128, ℕ},
  Link.WorkedEnds.{client, config, new_key, sci_a, sci_b},
}

abbrev pub salt : List ℕ
salt = replicate 12 9

-- seven commands, a client frame of A, and its link frame padded
abbrev pub events : Bool → List Event
events conf =
    Command A (Key (new_key salt 1)) ∷ Command A (TxSa 2 0 5 conf) ∷ Command A (TxOn 2) ∷
    Command B (Key (new_key salt 2)) ∷ Command B (RxSc sci_a) ∷ Command B (RxSa sci_a 2 0 1 5) ∷ Command B (RxOn sci_a 2) ∷
    Send A client ∷ Pad 0 ∷ []

abbrev pub tx : Bool → TxRow
tx conf = record { an = 2; key = 0; next = 5; conf = conf; on = true }

abbrev pub rx : RxRow
rx = record { sci = sci_a; an = 2; key = 0; ssci = 1; next = 5; lowest = 5; on = true }

abbrev pub at : Suite → Bool → ℕ → WorldState
at suite conf k = world_at (config suite sci_a) (config suite sci_b) (events conf) k

abbrev pub sender : Suite → Bool → State
sender suite conf = (end_of (at suite conf 7) A).state

abbrev pub parts : Suite → Bool → MpduParts
parts suite conf = parts_sent (tx_options (sender suite conf)) (the_key (sender suite conf).keys 0) (tx conf) client

pub record PremisesHold (suite : Suite) (conf : Bool) : Type 0 where
  pub fits : frame_fault client ≡ None
  pub by : (sending_of (sender suite conf) client).by ≡ Some (tx conf)
  pub can : CanAccept (sender suite conf) (end_of (at suite conf 9) B).state (tx conf) rx (parts suite conf)
  pub as_sent : IsOnLink (at suite conf 9) 0 (parts suite conf)
  pub padded : IsOnLink (at suite conf 9) 1 (parts suite conf)

pub gcm128 : PremisesHold Gcm128 true
gcm128 = record {
  fits = refl;
  by = refl;
  can = record {
    not_disabled = λ e. cc;
    sci = refl;
    on = refl;
    key = record { bytes = refl; suite = refl; offset = refl; salt = λ e. cc; ssci = λ e. cc };
    not_late = omega arith;
    near = λ e. cc;
  };
  as_sent = inl refl;
  padded = inr refl;
}

xpn128 : PremisesHold Xpn128 false
xpn128 = record {
  fits = refl;
  by = refl;
  can = record {
    not_disabled = λ e. cc;
    sci = refl;
    on = refl;
    key = record { bytes = refl; suite = refl; offset = refl; salt = λ e. refl; ssci = λ e. refl };
    not_late = omega arith;
    near = λ e. omega arith;
  };
  as_sent = inl refl;
  padded = inr refl;
}
