-- What the disk can do.
use Rattle.std.proofs.{
  Common.{◌≡◌, ◌≢◌, ℕ, ◌%◌, ◌≤◌, Bool, true, false, ◌||◌, if◌then◌else◌, List, [], ◌∷◌, ◌++◌, length, nat_le, refl},
  Common.{ap, sym, ◌∙◌, arith, append_assoc, All, codes, inl, inr, subst, take, Option, None, Some},
  lemmas.{Bool.lt-leb, List.append_cancel_left, List.Elements.{All-append, All-cons, All-nil, All-weaker}},
}
use Rattle.macsec_reserve.specs.Journal.{header}
use Rattle.macsec_journal.specs.{
  Damage.IsDamaged,
  Disk.{Piece, Stands, apart_from, end_of, folder_left, is_apart, sector_ceiling, sector_floor},
  Format.{check_of_file, entries_digest, file_title},
  Harms.{CanHarm, IsCollision, ShareSector, at_call},
  Machine.{appended, whole},
  World.{Process, World, ends, happens_by},
  declared.step.Step.TheVariants.Appending,
}

any_left : (octets : List ℕ) → All (Stands octets) []
any_left octets = All-nil (Stands octets)

-- so a piece with a shared sector is dropped
near : (p q : Piece) → ShareSector p q → is_apart p q ≡ false
near p q it =
    ap (λ (b : Bool). b || nat_le (sector_ceiling (end_of p)) q.at) (lt-leb (end_of q) (sector_floor p.at)
    (omega (arith, it.in_piece, it.in_other, it.sector)))
    ∙ lt-leb (sector_ceiling (end_of p)) q.at (omega (arith, it.in_piece, it.in_other, it.sector))

dropped : (p q : Piece) → ShareSector p q → (octets : List ℕ) → All (Stands octets)
    (if is_apart p q then q ∷ [] else [])
dropped p q it octets = subst (λ (b : Bool). All (Stands octets) (if b then q ∷ [] else [])) (sym (near p q it))
    (any_left octets)

-- and is not there after a write to its sector
replaced : (p q : Piece) → ShareSector p q → (octets : List ℕ) → Stands octets p → All (Stands octets)
    (apart_from p (q ∷ []) ++ p ∷ [])
replaced p q it octets stands =
    All-append (Stands octets) (apart_from p (q ∷ [])) (p ∷ []) (dropped p q it octets)
    (All-cons (Stands octets) p [] stands (any_left octets))

more_follows : (octets more : List ℕ) (p : Piece) → Stands octets p → Stands (octets ++ more) p
more_follows octets more p it = record {
  before = it.before;
  behind = it.behind ++ more;
  is = ap (λ xs. xs ++ more) it.is ∙ append_assoc (it.before ++ p.octets) it.behind more;
  at = it.at;
}

sector_damaged : (before was now behind : List ℕ) → length before % 4096 ≡ 0 → length was ≤ 4096 → length now % 64 ≡
    length was % 64 → IsDamaged (before ++ was ++ behind) (before ++ now ++ behind)
sector_damaged before was now behind sector within records = record {
  before = before;
  was = was;
  now = now;
  behind = behind;
  is = refl;
  becomes = refl;
  sector = sector;
  within = within;
  records = records;
}

-- the texts that are digested differ too
same_digest : (salt one other : List ℕ) → one ≢ other → entries_digest salt one ≡ entries_digest salt other →
    IsCollision
same_digest salt one other differ same = record {
  one = codes "macsec journal: table" ++ salt ++ one;
  other = codes "macsec journal: table" ++ salt ++ other;
  differ = λ is. differ (append_cancel_left salt one other (append_cancel_left (codes "macsec journal: table")
      (salt ++ one) (salt ++ other) is));
  same = ap (λ (digest : List ℕ). take 24 digest) same;
}

same_check : (one other : List ℕ) → one ≢ other → check_of_file one ≡ check_of_file other → IsCollision
same_check one other differ same = record {
  one = codes "macsec journal: header" ++ file_title ++ one;
  other = codes "macsec journal: header" ++ file_title ++ other;
  differ = λ is. differ (append_cancel_left file_title one other (append_cancel_left (codes "macsec journal: header")
      (file_title ++ one) (file_title ++ other) is));
  same = same;
}

crash_leaves : (now : Option Process) (w : World) (n : ℕ) → (happens_by w now (ends n)).folder ≡ folder_left n w.folder
crash_leaves None w n = refl
crash_leaves (Some p) w n = refl

pub can_harm : CanHarm
can_harm = record {
  shares = λ x y.
      record {
        octet = 0;
        in_piece = (omega arith, omega arith);
        other = 4095;
        in_other = (omega arith, omega arith);
        sector = refl;
      };
  calls = λ w p ok. (tt, refl);
  tears = λ j f p. dropped (appended j) p;
  overwrites = λ j f p. dropped (appended j) p;
  tears_fresh = λ j f p. dropped (appended j) p;
  tears_fresh_new = λ j f p. dropped (whole j) p;
  replaces = λ j f p. replaced (appended j) p;
  forgets = λ j f. any_left;
  ends = λ j f. any_left;
  reads = λ j f. any_left (appended (at_call Appending j)).octets;
  follows = λ f octets more left. All-weaker (Stands octets) (Stands (octets ++ more)) (more_follows octets more) f.firm
      left;
  leads_back = λ j f. refl;
  leads_back_later = λ j f. refl;
  leads_further = λ j f n. refl;
  fails_further = λ j f n. refl;
  renames = λ j f. (1, omega arith, refl);
  tears_new = λ j f p. dropped (whole j) p;
  forgets_new = λ j f. any_left;
  ends_new = λ j f n. any_left;
  crashes = λ w n within. (within, crash_leaves w.now w n);
  is_earlier = λ salt more. All-cons (Stands (header salt ++ more)) (record { at = 0; octets = header salt }) []
      (record { before = []; behind = more; is = refl; at = refl }) (any_left (header salt ++ more));
  damages = sector_damaged;
  finds = λ w limit config left damaged is harm header count entries readable small fit. (
    inr (record {
      whole = left;
      left = is;
      damaged = harm;
      no_chance = record { header = λ so. header; count = inr count; entries = λ so. entries };
      is = readable;
    }),
    small,
    fit,
  );
  shows = λ octets damaged header count entries.
      record {
        header = λ so. let contrary : true ≡ false = sym so ∙ header in absurd cc;
        count = inl count;
        entries = λ so. absurd (entries so);
      };
  collides = same_digest;
  collides_salt = same_check;
}
