-- Whether two ends are the same.
use Rattle.macsec_link.proofs.Names.{◌≡◌, ◌⊎◌, A, B, End, false, inl, inr, other_end, refl, same_end, true}

pub same_itself : (e : End) → same_end e e ≡ true
same_itself A = refl
same_itself B = refl

pub same_or_not : (f e : End) → (f ≡ e) ⊎ (same_end f e ≡ false)
same_or_not A A = inl refl
same_or_not B B = inl refl
same_or_not f e = inr refl

pub one_end : (e f : End) → same_end e f ≡ true → e ≡ f
one_end A A same = refl
one_end B B same = refl
one_end e f same = cc

pub either_end : (e f : End) → (f ≡ e) ⊎ (f ≡ other_end e)
either_end A A = inl refl
either_end B B = inl refl
either_end e f = inr refl
