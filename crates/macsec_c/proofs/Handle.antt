-- A handle's struct: its one field is a pointer, and it owns what `Owned` says of that. The laws hold for each such
-- struct, whatever it holds.
use denote.Struct.Field.{RawPtr-field}
use denote.Struct.Laws.{RawPtr-laws}
use denote.Struct.Owning.{Owning, row}
use denote.Struct.OwningLaws.{Tells-lowered}
use denote.Laws.{Is}
use denote.Triple.Clauses.{Clauses, closing, Ended}
use denote.Triple.Spec.{Meets}
use contract.Running.{Running}
use prog.Model.{Model}
use prog.Wp.{Closed}
use mir.Syntax as m
use mir.Raw.{raw}
use Rattle.macsec_c.proofs.{
  Names.{[], block_ptr, Exit, exits_of, feq_i, fex, fields, fjoin, Fml, fpack, frees, fsep, full_share, Goal, heap},
  Names.{hidden, IsSend, Item, Keyless, leaves, List, Logic, lone, named, None, nothing, null_ptr, Option, owned},
  Names.{owning_send, part_keyless, plain_send, pointee, Ptr, ptr_val, Quiet, RattleType, RawPtr, refl, rewrite},
  Names.{shape, Some, Step, step, struct_send, sym, tables, to, unchanged, under, Ura, Val, Valss, vcons, vnil},
  Names.{vstruct, within, ‵, ℕ, ◌$◌, ◌∷◌, ◌≡◌},
}

pub record Handle : Type 2 where
  -- the struct, and the type that its pointer leads to
  pub struct : Owning
  pub held : RattleType
  pub at : struct.D → Ptr
  pub state : struct.D → Option held.Denot
  pub of : Ptr → Option held.Denot → struct.D
  pub at_of : (p : Ptr) (s : Option held.Denot) → at (of p s) ≡ p
  pub state_of : (p : Ptr) (s : Option held.Denot) → state (of p s) ≡ s

abbrev pub word : Ptr → Val
word p = vstruct (vcons (ptr_val p) vnil)

quiet : {D X : Type 0} (to : D → X) (e : Exit X) → Quiet e → Quiet (hidden (under to e))
quiet to unchanged q = λ x w. tt
quiet to (leaves L l S s r₀) q = λ d. q (to d)

module _ (X : Handle) where
  -- the struct itself, with what it has in common with the others written out
  abbrev pub type : Owning
  type = record {
    name = X.struct.name;
    args = [];
    types = [];
    parts = RawPtr-field ∷ [];
    D = X.struct.D;
    as_values = λ d. (X.at d, tt);
    coded = X.struct.coded;
    heap = λ d. owned X.held (X.at d) (X.state d);
    exit = λ k. hidden (under (λ d. (X.at d, tt)) (exits_of k (RawPtr ∷ [])));
    shr_at = X.struct.shr_at;
  }

  abbrev pub handle : RattleType
  handle = row type

  -- what the fields own, at this pointer
  abbrev pub Fields : Ptr → List Val → Fml
  Fields p us = fex (Valss (RawPtr ∷ [])) (within (shape type) (p, tt) us)

  pub word_is : (h : X.struct.D) (us : List Val) → Is handle h us → us ≡ word (X.at h) ∷ []
  word_is h us is = Tells-lowered type (RawPtr-laws, tt) h us is

  module _ {M : Type 1} {𝓤 : Ura M} {𝓛 : Logic 𝓤} {K : Type 0} {Γ : List (Item 𝓤)} {G : Goal 𝓤 𝓛.H} where
    -- a handle is made of its pointer and what it owns
    pub made : K → (p : Ptr) (s : Option X.held.Denot) → Step K 𝓛 (‵ (handle.own_val (X.of p s) (word p ∷ [])) ∷ Γ) G
        (‵ (owned X.held p s) ∷ Γ) G
    made t p s = step (λ k. let Owns : Ptr → Option X.held.Denot → Fml = λ q z. fsep (Fields q (word p ∷ []))
        (owned X.held q z) in
        nothing t $ feq_i t (List Val) (ptr_val p ∷ []) (ptr_val p ∷ []) refl $ fjoin t $ feq_i t (List Val)
        (word p ∷ []) (word p ∷ []) refl $ fjoin t $
        fpack t (Valss (RawPtr ∷ [])) (within (shape type) (p, tt) (word p ∷ [])) (ptr_val p ∷ [], tt) $ fjoin t $
        rewrite t 0 (λ (q : Ptr). ‵ (Owns q s)) (sym (X.at_of p s)) refl $ rewrite t 0
        (λ (z : Option X.held.Denot). ‵ (Owns (X.at (X.of p s)) z)) (sym (X.state_of p s)) refl $ k)

  -- ---- threads
  module _ (held_send : IsSend X.held) where
    keyless : (p : Ptr) (s : Option X.held.Denot) → Keyless (owned X.held p s)
    keyless p None = tt
    keyless (block_ptr b o) (Some s) =
        (part_keyless X.held held_send full_share s b o, frees.frees heap (raw (lone X.held.mir)) (block_ptr b o))
    keyless null_ptr (Some s) = (tt, frees.frees heap (raw (lone X.held.mir)) null_ptr)

    -- a handle may go to another thread: what it owns means the same in every thread
    pub sends : IsSend handle
    sends =
        let ps : IsSend RawPtr = plain_send _ _ _ _ _ in
        owning_send type (ps, tt) (λ d. keyless (X.at d) (X.state d)) (λ k. quiet (to type) (exits_of k (fields type))
        ((struct_send (shape type) (ps, tt)).leaving k))

  -- ---- the code of a method
  -- the pointer behind `self`, and the types of `self` and of a `&mut` to what the handle holds
  abbrev pub self_at : m.Place
  self_at = m.place 1 (m.deref (lone handle.mir) ∷ m.field 0 ∷ [])

  abbrev pub self_type : m.Local
  self_type = m.local (m.ty_ref (named 0) m.mut (pointee handle.written)) m.value_local

abbrev pub kept : m.Ty → m.Local
kept τ = m.local τ m.value_local

abbrev pub sets_to : ℕ → m.Opd → m.Body
sets_to i x = m.assign (m.place i []) (m.rv_opd x)

abbrev pub value_of : ℕ → m.Opd
value_of i = m.copy (m.place i [])

-- a function with one lifetime, this many parameters, these locals and this code meets these clauses
abbrev pub fn_of : ℕ → List m.Local → m.Body → m.Fn
fn_of n ls b = record { lifetimes = 1; outlives = []; ty_params = []; givens = 0; params = n; locals = ls; body = b }

abbrev pub Met : (T : Ended) → m.Fn → ((M : Type 1) (𝓤 : Ura M) → Logic 𝓤 → Clauses 𝓤 T) → Type 2
Met T f c = (M : Type 1) (𝓤 : Ura M) (𝓛 : Logic 𝓤) (𝓜 : Model 𝓤 𝓛.H) (𝓡 : Running 𝓤 𝓛.H 𝓜) (k : m.Callee)
    → Closed 𝓤 𝓛.H (tables 𝓤 𝓛.H 𝓜 𝓡 𝓡.env).C (tables 𝓤 𝓛.H 𝓜 𝓡 𝓡.env).Λ k f
    → Meets 𝓛 T.signature ((tables 𝓤 𝓛.H 𝓜 𝓡 𝓡.env).C k) (closing 𝓛 T (c M 𝓤 𝓛))
