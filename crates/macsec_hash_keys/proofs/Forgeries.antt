-- Counting forgeries: at most n hash keys for each try.
use Rattle.{
  std.proofs.{
    Common.{◌≡◌, ◌≢◌, ◌⊎◌, inl, inr, ℕ, zero, suc, ◌+◌, ◌*◌, ◌^◌, ◌<◌, ◌≤◌, List, [], ◌∷◌, length, get_or, cond, true},
    Common.{IsSome, Contains, refl, sym, ap, ◌∙◌, subst, arith},
    lemmas.{Bool.cases_Bool, List.Elements.{All-cons, All-contains, All-from_recursion, All-nil, recursion_from_All}},
  },
  std.specs.{Cmp.Lexicographic.same_text, List.{All, AllByRecursion, AllPairs}},
  macsec_gcm.specs.{Gcm.hash_subkey, Octets.same_octets},
  macsec_suite.specs.CipherUses.{CipherUse, plaintext_of_use},
  macsec_hash_keys.proofs.{
    Roots.{AreBlocks, Differ, differ_from_pairs},
    Tags.{few_keys_accept, few_keys_forge, mask_gives_tag, opens_if_tag_is},
    UnderKey.{other_octets, same_octets-refl},
  },
  macsec_hash_keys.specs.{
    Counting.{mask_between, masks_for},
    Forgeries.{EveryKeyIsPossible, FewKeysHaveForgeries, ForgeryIsCounted, HasForgery, IsRight, IsWithin},
    Polynomials.AreKeys,
    Tags.{mask_of, tag_with},
  },
}

-- ---- lists by recursion

pub AnyOf : {A : Type 0} → (A → Type 0) → List A → Type 0
AnyOf P [] = ⊥
AnyOf P (x ∷ xs) = P x ⊎ AnyOf P xs

pub any_from : {A : Type 0} (P : A → Type 0) (xs : List A) (k : ℕ) (x : A) → k < length xs → get_or xs k x ≡ x → P x
    → AnyOf P xs
unfolding AnyOf
any_from P [] k x lt at p = absurd (omega arith)
any_from P (y ∷ ys) zero x lt at p = inl (subst P (sym at) p)
any_from P (y ∷ ys) (suc k) x lt at p = inr (any_from P ys k x (omega arith) at p)

pub pairs_from_differ : (xs : List ℕ) → Differ xs → AllPairs (λ x y. x ≢ y) xs
pairs_from_differ (x ∷ xs) d zero (suc j) default before within =
    All-from_recursion (λ y. x ≢ y) xs d.0 j default (omega arith)
pairs_from_differ (x ∷ xs) d (suc i) (suc j) default before within =
    pairs_from_differ xs d.1 i j default (omega arith) (omega arith)
pairs_from_differ xs d i j default before within = absurd (omega arith)

pub keys_from : (hs : List ℕ) → AreBlocks hs → Differ hs → AreKeys hs
keys_from hs blocks apart =
    record { blocks = All-from_recursion (λ h. h < 2 ^ 128) hs blocks; distinct = pairs_from_differ hs apart }

-- ---- the keys of a list in two parts

record Split (P Q : ℕ → Type 0) (hs : List ℕ) : Type 0 where
  first : List ℕ
  second : List ℕ
  long : length first + length second ≡ length hs
  in_first : AllByRecursion P first
  in_second : AllByRecursion Q second
  blocks_first : AreBlocks hs → AreBlocks first
  blocks_second : AreBlocks hs → AreBlocks second
  apart_first : (x : ℕ) → AllByRecursion (λ y. x ≢ y) hs → AllByRecursion (λ y. x ≢ y) first
  apart_second : (x : ℕ) → AllByRecursion (λ y. x ≢ y) hs → AllByRecursion (λ y. x ≢ y) second
  differ_first : Differ hs → Differ first
  differ_second : Differ hs → Differ second

split : (P Q : ℕ → Type 0) (hs : List ℕ) → AllByRecursion (λ h. P h ⊎ Q h) hs → Split P Q hs
split P Q [] each = record {
  first = [];
  second = [];
  long = refl;
  in_first = tt;
  in_second = tt;
  blocks_first = λ b. tt;
  blocks_second = λ b. tt;
  apart_first = λ x a. tt;
  apart_second = λ x a. tt;
  differ_first = λ d. tt;
  differ_second = λ d. tt;
}
split P Q (h ∷ hs) each =
    let s = split P Q hs each.1 in
    let long = s.long in
    elim each.0 [
      | inl p ↦ record {
        first = h ∷ s.first;
        second = s.second;
        long = omega arith;
        in_first = (p, s.in_first);
        in_second = s.in_second;
        blocks_first = λ b. (b.0, s.blocks_first b.1);
        blocks_second = λ b. s.blocks_second b.1;
        apart_first = λ x a. (a.0, s.apart_first x a.1);
        apart_second = λ x a. s.apart_second x a.1;
        differ_first = λ d. (s.apart_first h d.0, s.differ_first d.1);
        differ_second = λ d. s.differ_second d.1;
      }
      | inr q ↦ record {
        first = s.first;
        second = h ∷ s.second;
        long = omega arith;
        in_first = s.in_first;
        in_second = (q, s.in_second);
        blocks_first = λ b. s.blocks_first b.1;
        blocks_second = λ b. (b.0, s.blocks_second b.1);
        apart_first = λ x a. s.apart_first x a.1;
        apart_second = λ x a. (a.0, s.apart_second x a.1);
        differ_first = λ d. s.differ_first d.1;
        differ_second = λ d. (s.apart_second h d.0, s.differ_second d.1);
      }
    ]

-- at most n keys for each of the tries
pub count_by_tries : {A : Type 0} (n : ℕ) (P : A → ℕ → Type 0) (tries : List A)
    → AllByRecursion (λ u. (hs : List ℕ) → AreBlocks hs → Differ hs → AllByRecursion (P u) hs → length hs ≤ n) tries
    → (hs : List ℕ) → AreBlocks hs → Differ hs → AllByRecursion (λ h. AnyOf (λ u. P u h) tries) hs
    → length hs ≤ length tries * n
unfolding AnyOf
count_by_tries n P [] few [] blocks apart each = omega arith
count_by_tries n P [] few (h ∷ hs) blocks apart each = absurd each.0
count_by_tries n P (u ∷ tries) few hs blocks apart each =
    let s = split (P u) (λ h. AnyOf (λ v. P v h) tries) hs each in
    let one = few.0 s.first (s.blocks_first blocks) (s.differ_first apart) s.in_first in
    let others = count_by_tries n P tries few.1 s.second (s.blocks_second blocks) (s.differ_second apart) s.in_second in
    let long = s.long in
    omega (arith, one, others, long)

-- ---- one try

-- a try that is right under the hash key
record IsForgedBy (given : List ℕ → List ℕ) (seals : List CipherUse) (u : CipherUse) (h : ℕ) : Type 0 where
  masks : List ℕ → List ℕ
  unused : (iv : List ℕ) → All (λ s. s.iv ≢ iv) seals → masks iv ≡ given iv
  sealed : All (IsRight h masks) seals
  right : IsRight h masks u
  other : Contains seals u → ⊥

same_or_not : (xs ys : List ℕ) → (xs ≡ ys) ⊎ (xs ≡ ys → ⊥)
same_or_not xs ys = elim (cases_Bool (same_octets xs ys)) [
  | inl e ↦ inl (same_text xs ys (sym e))
  | inr apart ↦ inr (λ e. let yes : same_octets xs ys ≡ true = ap (λ zs. same_octets zs ys) e
      ∙ same_octets-refl ys in absurd (cc))
]

pub search_iv : (seals : List CipherUse) (iv : List ℕ)
    → ((s : CipherUse) × Contains seals s × (s.iv ≡ iv)) ⊎ All (λ s. s.iv ≢ iv) seals
search_iv [] iv = inr (All-nil (λ s. s.iv ≢ iv))
search_iv (s ∷ seals) iv = elim (same_or_not s.iv iv) [
  | inl here ↦ inl (s, (0, omega arith, refl), here)
  | inr apart ↦ elim (search_iv seals iv) [
    | inl found ↦ inl (found.0, (suc found.1.0, (let lt = found.1.1 in omega arith), found.1.2), found.2)
    | inr none ↦ inr (All-cons (λ s. s.iv ≢ iv) s seals apart none)
  ]
]

pub same_use : (s u : CipherUse) → s.key ≡ u.key → s.iv ≡ u.iv → s.aad ≡ u.aad → s.ciphertext ≡ u.ciphertext
    → s.tag ≡ u.tag → s ≡ u
same_use s u k v a c t = λ i. record { key = k i; iv = v i; aad = a i; ciphertext = c i; tag = t i }

both_right : (hs : List ℕ) (given : List ℕ → List ℕ) (seals : List CipherUse) (u s : CipherUse) → Contains seals s
    → s.iv ≡ u.iv
    → AllByRecursion (IsForgedBy given seals u) hs
    → AllByRecursion (λ h. (mask : List ℕ) × (tag_with h mask s.aad s.ciphertext ≡ s.tag)
    × (tag_with h mask u.aad u.ciphertext ≡ u.tag)) hs
both_right [] given seals u s in_seals same_iv each = tt
both_right (h ∷ hs) given seals u s in_seals same_iv each =
    let f = each.0 in (
      (
        f.masks u.iv,
        ap (λ iv. tag_with h (f.masks iv) s.aad s.ciphertext) (sym same_iv)
            ∙ All-contains (IsRight h f.masks) seals s f.sealed in_seals,
        f.right,
      ),
      both_right hs given seals u s in_seals same_iv each.1,
    )

right_under_given : (hs : List ℕ) (given : List ℕ → List ℕ) (seals : List CipherUse) (u : CipherUse)
    → All (λ s. s.iv ≢ u.iv) seals
    → AllByRecursion (IsForgedBy given seals u) hs
    → AllByRecursion (λ h. tag_with h (given u.iv) u.aad u.ciphertext ≡ u.tag) hs
right_under_given [] given seals u none each = tt
right_under_given (h ∷ hs) given seals u none each =
    let f = each.0 in (
      ap (λ mask. tag_with h mask u.aad u.ciphertext) (sym (f.unused u.iv none)) ∙ f.right,
      right_under_given hs given seals u none each.1,
    )

-- a try with the IV of something sealed, and one with another IV
keys_for_sealed :
    (n : ℕ) (key : List ℕ) (given : List ℕ → List ℕ) (seals : List CipherUse) (u s : CipherUse) (hs : List ℕ)
    → All (λ x. x.key ≡ key) seals → All (IsWithin n) seals → u.key ≡ key → IsWithin n u → Contains seals s
    → s.iv ≡ u.iv
    → AreBlocks hs → Differ hs → AllByRecursion (IsForgedBy given seals u) hs → length hs ≤ n
keys_for_sealed n key given seals u s [] keys within ku wu in_seals same_iv blocks apart each = omega arith
keys_for_sealed n key given seals u s (h ∷ hs) keys within ku wu in_seals same_iv blocks apart each =
    let ks = All-contains (λ x. x.key ≡ key) seals s keys in_seals in
    let ws = All-contains (IsWithin n) seals s within in_seals in
    let few = few_keys_forge s.aad s.ciphertext s.tag u.aad u.ciphertext u.tag (h ∷ hs) ws.message wu.message
    (λ same_aad same_text same_tag. each.0.other
    (subst (Contains seals) (same_use s u (ks ∙ sym ku) same_iv same_aad same_text same_tag) in_seals))
    (keys_from (h ∷ hs) blocks apart)
    (All-from_recursion (λ h. (mask : List ℕ) × (tag_with h mask s.aad s.ciphertext ≡ s.tag)
    × (tag_with h mask u.aad u.ciphertext ≡ u.tag)) (h ∷ hs)
    (both_right (h ∷ hs) given seals u s in_seals same_iv each)) in
    let small_s = ws.blocks in
    let small_u = wu.blocks in
    omega (arith, few)

keys_for_unused : (n : ℕ) (given : List ℕ → List ℕ) (seals : List CipherUse) (u : CipherUse) (hs : List ℕ)
    → IsWithin n u → All (λ s. s.iv ≢ u.iv) seals
    → AreBlocks hs → Differ hs → AllByRecursion (IsForgedBy given seals u) hs → length hs ≤ n
keys_for_unused n given seals u hs wu none blocks apart each =
    let few = few_keys_accept (given u.iv) u.aad u.ciphertext u.tag hs wu.message wu.has_aad (keys_from hs blocks apart)
    (All-from_recursion (λ h. tag_with h (given u.iv) u.aad u.ciphertext ≡ u.tag) hs
    (right_under_given hs given seals u none each)) in
    let small = wu.blocks in
    omega (arith, few)

keys_for : (n : ℕ) (key : List ℕ) (given : List ℕ → List ℕ) (seals : List CipherUse) (u : CipherUse) (hs : List ℕ)
    → All (λ x. x.key ≡ key) seals → All (IsWithin n) seals → u.key ≡ key → IsWithin n u
    → AreBlocks hs → Differ hs → AllByRecursion (IsForgedBy given seals u) hs → length hs ≤ n
keys_for n key given seals u hs keys within ku wu blocks apart each = elim (search_iv seals u.iv) [
  | inl found ↦ keys_for_sealed n key given seals u found.0 hs keys within ku wu found.1 found.2 blocks apart each
  | inr none ↦ keys_for_unused n given seals u hs wu none blocks apart each
]

-- ---- all tries

each_try : (n : ℕ) (key : List ℕ) (given : List ℕ → List ℕ) (seals tries : List CipherUse)
    → All (λ x. x.key ≡ key) seals → All (IsWithin n) seals
    → AllByRecursion (λ x. x.key ≡ key) tries → AllByRecursion (IsWithin n) tries
    → AllByRecursion (λ u. (hs : List ℕ) → AreBlocks hs → Differ hs → AllByRecursion (IsForgedBy given seals u) hs
    → length hs ≤ n) tries
each_try n key given seals [] keys within ku wu = tt
each_try n key given seals (u ∷ tries) keys within ku wu = (
  λ hs blocks apart each. keys_for n key given seals u hs keys within ku.0 wu.0 blocks apart each,
  each_try n key given seals tries keys within ku.1 wu.1,
)

forged_by_one : (given : List ℕ → List ℕ) (seals tries : List CipherUse) (h : ℕ) → HasForgery given seals tries h
    → AnyOf (λ u. IsForgedBy given seals u h) tries
forged_by_one given seals tries h f =
    let a = f.forged in
    any_from (λ u. IsForgedBy given seals u h) tries a.0 a.1 a.2 a.3
    (record { masks = f.masks; unused = f.unused; sealed = f.sealed; right = a.4.0; other = a.4.1 })

each_forged : (given : List ℕ → List ℕ) (seals tries : List CipherUse) (hs : List ℕ)
    → AllByRecursion (HasForgery given seals tries) hs
    → AllByRecursion (λ h. AnyOf (λ u. IsForgedBy given seals u h) tries) hs
each_forged given seals tries [] each = tt
each_forged given seals tries (h ∷ hs) each =
    (forged_by_one given seals tries h each.0, each_forged given seals tries hs each.1)

pub few_keys_have_forgeries : FewKeysHaveForgeries
few_keys_have_forgeries n key given seals tries hs ks ws kt wt keys each =
    count_by_tries n _ tries
    (each_try n key given seals tries ks ws (recursion_from_All (λ x. x.key ≡ key) tries kt)
    (recursion_from_All _ tries wt))
    hs (recursion_from_All (λ h. h < 2 ^ 128) hs keys.blocks) (differ_from_pairs hs keys.distinct)
    (each_forged given seals tries hs (recursion_from_All _ hs each))

-- ---- every hash key is possible

pub masks_elsewhere : (h : ℕ) (given : List ℕ → List ℕ) (seals : List CipherUse) (iv : List ℕ)
    → AllByRecursion (λ s. s.iv ≢ iv) seals
    → masks_for h given seals iv ≡ given iv
unfolding masks_for
masks_elsewhere h given [] iv apart = refl
masks_elsewhere h given (s ∷ seals) iv apart =
    ap (λ b. cond b (mask_between h s.aad s.ciphertext s.tag) (masks_for h given seals iv))
    (other_octets s.iv iv apart.0)
    ∙ masks_elsewhere h given seals iv apart.1

pub mask_here : (h : ℕ) (given : List ℕ → List ℕ) (s : CipherUse) (seals : List CipherUse)
    → masks_for h given (s ∷ seals) s.iv ≡ mask_between h s.aad s.ciphertext s.tag
unfolding masks_for
mask_here h given s seals =
    ap (λ b. cond b (mask_between h s.aad s.ciphertext s.tag) (masks_for h given seals s.iv)) (same_octets-refl s.iv)

pub mask_behind : (h : ℕ) (given : List ℕ → List ℕ) (s : CipherUse) (seals : List CipherUse) (iv : List ℕ) → s.iv ≢ iv
    → masks_for h given (s ∷ seals) iv ≡ masks_for h given seals iv
unfolding masks_for
mask_behind h given s seals iv apart =
    ap (λ b. cond b (mask_between h s.aad s.ciphertext s.tag) (masks_for h given seals iv)) (other_octets s.iv iv apart)

-- no two have the same IV
abbrev pub DifferentIvs : List CipherUse → Type 0
DifferentIvs [] = Unit {0}
DifferentIvs (s ∷ seals) = AllByRecursion (λ r. s.iv ≢ r.iv) seals × DifferentIvs seals

pub different_from_pairs : (seals : List CipherUse) → AllPairs (λ s r. s.iv ≢ r.iv) seals → DifferentIvs seals
different_from_pairs [] h = tt
different_from_pairs (s ∷ seals) h = (
  recursion_from_All (λ r. s.iv ≢ r.iv) seals (λ k default lt. h 0 (suc k) default (omega arith) (omega arith)),
  different_from_pairs seals (λ i j default lt within. h (suc i) (suc j) default (omega arith) (omega arith)),
)

-- tags that are right stay right when the mask of another IV is added
still_right : (h : ℕ) (given : List ℕ → List ℕ) (s : CipherUse) (seals rest : List CipherUse)
    → AllByRecursion (λ r. s.iv ≢ r.iv) rest
    → AllByRecursion (IsRight h (masks_for h given seals)) rest
    → AllByRecursion (IsRight h (masks_for h given (s ∷ seals))) rest
still_right h given s seals [] apart right = tt
still_right h given s seals (r ∷ rest) apart right = (
  ap (λ mask. tag_with h mask r.aad r.ciphertext) (mask_behind h given s seals r.iv apart.0) ∙ right.0,
  still_right h given s seals rest apart.1 right.1,
)

pub all_right : (h : ℕ) (given : List ℕ → List ℕ) (seals : List CipherUse) → DifferentIvs seals
    → AllByRecursion (λ s. length s.tag ≡ 16) seals
    → AllByRecursion (IsRight h (masks_for h given seals)) seals
all_right h given [] apart long = tt
all_right h given (s ∷ seals) apart long = (
  ap (λ mask. tag_with h mask s.aad s.ciphertext) (mask_here h given s seals) ∙ mask_gives_tag h s.aad _ s.tag long.0,
  still_right h given s seals seals apart.0 (all_right h given seals apart.1 long.1),
)

pub masks_make_right : (given : List ℕ → List ℕ) (seals : List CipherUse) (h : ℕ) → AllPairs (λ s r. s.iv ≢ r.iv) seals
    → All (λ s. length s.tag ≡ 16) seals
    → ((iv : List ℕ) → All (λ s. s.iv ≢ iv) seals → masks_for h given seals iv ≡ given iv)
    × All (IsRight h (masks_for h given seals)) seals
masks_make_right given seals h apart long = (
  (λ iv none. masks_elsewhere h given seals iv (recursion_from_All (λ s. s.iv ≢ iv) seals none)),
  All-from_recursion (IsRight h (masks_for h given seals)) seals
      (all_right h given seals (different_from_pairs seals apart)
      (recursion_from_All (λ s. length s.tag ≡ 16) seals long)),
)

pub every_key_is_possible : EveryKeyIsPossible
every_key_is_possible given seals h apart long =
    let right = masks_make_right given seals h apart long in
    (masks_for h given seals, right.0, right.1)

-- ---- the hash key of AES

pub opened_right : (key : List ℕ) (u : CipherUse) → u.key ≡ key → IsSome (plaintext_of_use u)
    → IsRight (hash_subkey key) (mask_of key) u
opened_right key u k opens =
    ap (λ k. tag_with (hash_subkey k) (mask_of k u.iv) u.aad u.ciphertext) (sym k)
    ∙ (opens_if_tag_is u.key u.iv u.aad u.ciphertext u.tag).0 opens

pub forgery_is_counted : ForgeryIsCounted
forgery_is_counted key seals tries ks opens kt forged =
    let u = forged.1 in
    let ku : u.key ≡ key = subst (λ x. x.key ≡ key) forged.3 (kt forged.0 u forged.2) in
    record {
      masks = mask_of key;
      unused = λ iv none. refl;
      sealed = λ k default lt. opened_right key _ (ks k default lt) (opens k default lt);
      forged = (forged.0, u, forged.2, forged.3, (opened_right key u ku forged.4.0, forged.4.1));
    }
