-- The laws of an endpoint, as the law functions state them, and what follows for two keys with equal IVs.
use Rattle.{
  macsec_suite.specs.{IvLaws.{EqualIvs, HaveSameSender}, KeyRows.IsKeyRow},
  macsec_secy.specs.{
    Delivers.DeliversFrom,
    Kept.{KeysAreApart, RxRowStays, RxRowsAreApart},
    Protects.Protects,
    Sound.IsSound,
  },
  macsec_link.proofs.Names.{◌≡◌, ◌≢◌, All-contains, cases_Bool, Contains, inl, Input, inr, InstalledKey, is_xpn},
  macsec_link.proofs.Names.{IvParts, KeysStay, List, RxRow, Sci, State, step, Suite, true, TxRow, ℕ},
}

pub record EndpointLaws : Type 0 where
  pub equal_ivs : (suite : Suite) (p q : IvParts) → EqualIvs suite p q
  pub keys_apart : (s : State) → IsSound s → KeysAreApart s.keys
  pub keys_stay : (s : State) (input : Input) → IsSound s → KeysStay s (step s input).1
  pub rx_rows_apart : (s : State) → IsSound s → RxRowsAreApart s.rx.rows
  pub rx_rows_stay : (s : State) (input : Input) (sci : Sci) (an n : ℕ) → RxRowStays s input sci an n
  pub protects : (s : State) (frame : List ℕ) (row : TxRow) → Protects s frame row
  pub delivers : (s : State) (frame : List ℕ) (row : RxRow) (delivered : List ℕ) → DeliversFrom s frame row delivered

pub key_row_facts : EndpointLaws → (s : State) (key : InstalledKey) → IsSound s → Contains s.keys key → IsKeyRow key
key_row_facts laws s key sound there = All-contains IsKeyRow s.keys key (laws.keys_apart s sound).rows there

-- two different senders do not have the same IV
pub differ : (suite : Suite) (p q : IvParts) → HaveSameSender suite p q → (is_xpn suite ≡ true → p.ssci ≢ q.ssci) → p.sci ≢ q.sci → ⊥
differ suite p q same sscis scis = elim (cases_Bool (is_xpn suite)) [ inl xpn ↦ sscis xpn (same.ssci xpn) | inr short ↦ scis (same.sci short) ]
