-- What the link shows in a run says nothing of the encrypted octets but how many there are.
use Rattle.{
  std.proofs.{
    Common.{◌≡◌, ◌≢◌, ℕ, ◌<◌, List, [], ◌∷◌, get_or, map, All, AllPairs, refl, sym, ap, ap₂, ◌∙◌, subst, arith},
    lemmas.List.{get_or-map, length-map, Elements.{All-filter, All-map, recursion_from_All}},
  },
  std.specs.List.{AllByRecursion, AllZip},
  macsec_aes.specs.Aes.aes,
  macsec_gcm.{proofs.KeyStreams.length-gctr, specs.{Gcm.{gctr, inc32, pre_counter_block}, Octets.same_octets}},
  macsec_suite.specs.CipherUses.CipherUse,
  macsec_hash_keys.proofs.UnderKey.under_key,
  macsec_link.specs.Trace.trace_of,
  macsec_secrecy.proofs.{
    Pads.texts_are_hidden,
    Possible.{alike_are_apart, all_can_be_shown, all_texts_are_possible},
    SealedInRuns.{IsOwn, seals_own},
    Sealing.{aes_gives_blocks, gctr_octets},
    Uses.{IsCarried, Promises, carried_under, frames_fit, ivs_apart_in_run},
  },
  macsec_secrecy.specs.{
    BlockFunctions.{gctr_by, seal_by},
    Pads.{AreAlike, CanBeShown, IsMessage, Message, shown_by},
    Runs.{AreAsGood, LinkSaysNothing, SaysNothing, message_of, sealed_under, shown_of},
  },
}

gctr_is : (key icb text : List ℕ) → gctr_by (aes key) icb text ≡ gctr key icb text
unfolding gctr gctr_by
gctr_is key icb text = refl

message_is : (key : List ℕ) (u : CipherUse) → All (λ o. o < 256) key → u.key ≡ key → IsCarried 9248 u
    → IsMessage (message_of u)
message_is key u octets of_key it =
    let icb = inc32 (pre_counter_block u.iv) in
    let blocks = aes_gives_blocks u.key (subst (All (λ o. o < 256)) (sym of_key) octets) in
    let long = length-gctr u.key icb u.ciphertext in
    let fits = it.fits in
    record {
      iv = it.iv;
      octets = subst (All (λ o. o < 256)) (gctr_is u.key icb u.ciphertext)
          (gctr_octets (aes u.key) icb u.ciphertext blocks it.octets);
      fits = omega (arith, long, fits);
    }

shown_own : (key : List ℕ) (uses : List CipherUse) → AllByRecursion (λ u. u.key ≡ key) uses → AllByRecursion IsOwn uses
    → shown_by (aes key) (map message_of uses) ≡ map shown_of uses
unfolding shown_by
shown_own key [] of_key own = refl
shown_own key (u ∷ uses) of_key own =
    ap₂ (λ (s : List ℕ × List ℕ) (rest : List (List ℕ × List ℕ)). s ∷ rest)
    (ap (λ k. seal_by (aes k) (message_of u).iv (message_of u).aad (message_of u).text) (sym of_key.0) ∙ own.0)
    (shown_own key uses of_key.1 own.1)

messages_apart : (uses : List CipherUse) → AllPairs (λ s r. s.iv ≢ r.iv) uses
    → AllPairs (λ m r. m.iv ≢ r.iv) (map message_of uses)
messages_apart uses apart = λ i j default before within.
    let none : CipherUse = record { key = []; iv = []; aad = []; ciphertext = []; tag = [] } in
    let long = length-map uses message_of in
    let at_i : get_or (map message_of uses) i default ≡ message_of (get_or uses i none) =
    get_or-map _ uses i none default (omega arith) in
    let at_j : get_or (map message_of uses) j default ≡ message_of (get_or uses j none) =
    get_or-map _ uses j none default (omega arith) in
    λ e. apart i j none before (omega arith) (ap (λ m. m.iv) (sym at_i) ∙ e ∙ ap (λ m. m.iv) at_j)

as_good : (key : List ℕ) (uses : List CipherUse) (ns : List Message) → All (λ o. o < 256) key
    → AllPairs (λ m r. m.iv ≢ r.iv) (map message_of uses)
    → All IsMessage (map message_of uses) → shown_by (aes key) (map message_of uses) ≡ map shown_of uses
    → All IsMessage ns → AllZip AreAlike (map message_of uses) ns → AreAsGood uses ns
as_good key uses ns octets apart are shown are' alike =
    let ms = map message_of uses in
    let can : AllZip CanBeShown ns (map shown_of uses) =
    subst (AllZip CanBeShown ns) shown (all_can_be_shown _ ms ns (aes_gives_blocks key octets)
    (recursion_from_All IsMessage ms are) alike) in
    record {
      hidden = texts_are_hidden ms ns apart are are' alike;
      possible = λ hash_key long small. all_texts_are_possible hash_key ns (map shown_of uses) long small
          (alike_are_apart ms ns apart alike) are' can;
    }

-- uses under one key with different IVs; each shows what AES shows of its message
pub says_nothing : (key : List ℕ) (uses : List CipherUse) → All (λ o. o < 256) key → All (λ u. u.key ≡ key) uses
    → All IsOwn uses
    → AllPairs (λ s r. s.iv ≢ r.iv) uses → All IsMessage (map message_of uses) → SaysNothing key uses
says_nothing key uses octets of_key own apart are =
    let shown = shown_own key uses (recursion_from_All (λ u. u.key ≡ key) uses of_key)
    (recursion_from_All IsOwn uses own) in
    record {
      own = are;
      shown = shown;
      others = λ ns are' alike. as_good key uses ns octets (messages_apart uses apart) are shown are' alike;
    }

pub link_says_nothing : Promises → LinkSaysNothing
link_says_nothing promises a b events it key octets =
    let uses = sealed_under key a b events in
    let of_key = under_key key (trace_of a b events).seals in
    let carried = carried_under promises key a b events it.sound 9248 (frames_fit a b events it.sound) in
    says_nothing key uses octets of_key
    (All-filter (λ u. same_octets u.key key) IsOwn (trace_of a b events).seals (seals_own a b events))
    (ivs_apart_in_run promises key a b _ it)
    (All-map IsMessage message_of uses (λ k default lt. message_is key _ octets (of_key k default lt)
    (carried k default lt)))
