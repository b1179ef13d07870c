-- Over restarts: what an end seals is octets, and of few blocks.
use Rattle.{
  std.proofs.{
    Common.{◌≡◌, ℕ, zero, suc, ◌+◌, ◌*◌, ◌<◌, ◌≤◌, Bool, true, false, List, [], ◌∷◌, ◌++◌, length, map, take, drop},
    Common.{Option, Some, None, All, refl, sym, subst, arith, nat_lt, unwrap_or, if◌then◌else◌, is_some, ltb-false},
    lemmas.{Bool.cond_both, List.Elements.{All-append, All-drop, All-from_recursion, All-nil, All-take}},
  },
  std.specs.{Int.{bytes_high_first, to_be_bytes, w128, w32}, List.AllByRecursion},
  macsec_aes.specs.Aes.aes,
  macsec_ghash.proofs.MovedSums.octet_lt,
  macsec_gcm.specs.Gcm.seal_of,
  macsec_tag.specs.{
    Laws.AreOctets,
    Tag.{IsTag, Tag, bit_where, encoding, sci_octets, tci_an},
    declared.identifiers.Sci.Sci,
  },
  macsec_suite.specs.{KeyRows.{InstalledKey, key_row, no_key, the_key}, Parts.{aad_and_plaintext, clear_length}},
  macsec_commands.specs.declared.{event.End.TheVariants.{A, B}, form.TagForm.TagForm},
  macsec_tx.specs.{
    Tags.{is_own, sci_sent},
    Transmit.{Leaving, iv_sent, not_protected, no_sa, octets_added, parts_sent, protected, protected_frame, row_on},
    Transmit.{tag_sent, too_long, use_sent},
    Transmit.sending_by,
    declared.{TxOptions.TxOptions, TxRow.TxRow},
  },
  macsec_secy.specs.{Protects.Protects, Sound.IsSound, State.{State, tx_options}, Step.{frame_fault, sending_of}},
  macsec_restarts.specs.{
    Kept.{RunWith, runs_at},
    RenewingOrder.closing_renewing,
    RenewingRuns.sent_by_all,
    Used.{seal_of as use_in},
  },
  macsec_secrecy.{
    proofs.Sealing.{aes_gives_blocks, gctr_octets, is_over_aes},
    specs.BlockFunctions.{AreBlocks, seal_by, tag_by},
  },
  macsec_hash_keys.specs.Forgeries.IsWithin,
  macsec_link.proofs.{Deliveries.Grammar, Opened.opened_of_frame, Within.{frame_within, parts_within}},
  macsec_forgery.{
    proofs.{OverRestarts.few_keys_forge, Sealed.runs_have},
    specs.Histories.{AtEachState, FewKeysForgeByLength, FewKeysForgeInAnyHistory, HasOctetKeys, IsRunOfOctets},
    specs.Histories.{LeavesAtMost, TakesOctets},
  },
}
use Rattle.macsec_commands.specs.declared.form.TagForm.TheVariants as form

-- ---- what is sealed is octets

octets_lt : (m g : ℕ) → AllByRecursion (λ o. o < 256) (bytes_high_first m g)
octets_lt zero g = tt
octets_lt (suc m) g = (octet_lt m g, octets_lt m g)

block_octets : (f : List ℕ → List ℕ) (iv aad text : List ℕ) → AreBlocks f → AreOctets text
    → AreOctets (seal_by f iv aad text).0 × AreOctets (seal_by f iv aad text).1
unfolding seal_by tag_by
block_octets f iv aad text blocks small = (
  gctr_octets f _ text blocks small,
  gctr_octets f _ _ blocks (All-from_recursion (λ o. o < 256) (to_be_bytes w128 _) (octets_lt 16 _)),
)

sealed_octets : (key iv aad text : List ℕ) → AreOctets key → AreOctets text
    → AreOctets (seal_of key iv aad text).0 × AreOctets (seal_of key iv aad text).1
sealed_octets key iv aad text octets small =
    subst (λ it. AreOctets it.0 × AreOctets it.1) (sym (is_over_aes key iv aad text))
    (block_octets (aes key) iv aad text (aes_gives_blocks key octets) small)

bit_le : (b : Bool) (bit : ℕ) → bit_where b bit ≤ bit
bit_le true bit = omega arith
bit_le false bit = omega arith

tci_lt : (t : Tag) → t.an < 4 → tci_an t < 256
tci_lt t an =
    omega (
      arith,
      an,
      bit_le t.es 0x40,
      bit_le (is_some t.sci) 0x20,
      bit_le t.scb 0x10,
      bit_le t.e 0x08,
      bit_le t.c 0x04,
    )

encoding_octets : (t : Tag) → IsTag t → AreOctets (sci_octets t.sci) → AreOctets (encoding t)
encoding_octets t is sci =
    let P : ℕ → Type 0 = λ o. o < 256 in
    let short = is.sl in
    let front : List ℕ = 0x88 ∷ 0xe5 ∷ tci_an t ∷ t.sl ∷ [] in
    let number : List ℕ = to_be_bytes w32 t.pn in
    All-append P front (number ++ sci_octets t.sci)
    (All-from_recursion P front (omega arith, (omega arith, (tci_lt t is.an, (omega arith, tt)))))
    (All-append P number (sci_octets t.sci) (All-from_recursion P number (octets_lt 4 t.pn)) sci)

sci_octets_sent : (f : TagForm) (many : Bool) (sci : Sci) (sa : List ℕ) → AreOctets sci.0
    → AreOctets (sci_octets (sci_sent f many sci sa))
sci_octets_sent form.Auto many sci sa octets =
    cond_both many _ _ (λ o. AreOctets (sci_octets o)) (λ e. octets) (λ e. All-nil (λ o. o < 256))
sci_octets_sent form.Sci many sci sa octets = octets
sci_octets_sent form.Es many sci sa octets =
    cond_both (is_own sci sa) _ _ (λ o. AreOctets (sci_octets o)) (λ e. All-nil (λ o. o < 256)) (λ e. octets)
sci_octets_sent form.Scb many sci sa octets =
    cond_both (is_own sci sa) _ _ (λ o. AreOctets (sci_octets o)) (λ e. All-nil (λ o. o < 256)) (λ e. octets)

sent_octets : (options : TxOptions) (key : InstalledKey) (row : TxRow) (frame : List ℕ) → AreOctets key.bytes
    → AreOctets options.sci.0
    → IsTag (tag_sent options row frame) → AreOctets frame → AreOctets (protected_frame options key row frame)
sent_octets options key row frame ok os is of =
    let P : ℕ → Type 0 = λ o. o < 256 in
    let p = parts_sent options key row frame in
    let xs = drop 12 frame in
    let rest = All-drop P 12 frame of in
    let n = clear_length key.offset p.tag.e xs in
    let sa_octets : AreOctets p.sa = All-take P 6 (drop 6 frame) (All-drop P 6 frame of) in
    let parts = aad_and_plaintext key.offset p.tag.e p.da p.sa p.tag xs in
    let iv = iv_sent options key row in
    let ct = sealed_octets key.bytes iv parts.0 parts.1 ok (All-drop P n xs rest) in
    let tag = encoding_octets p.tag is (sci_octets_sent options.form options.many options.sci p.sa os) in
    let before = All-append P (p.da ++ p.sa) (encoding p.tag)
    (All-append P p.da p.sa (All-take P 6 frame of) sa_octets) tag in
    let secured = All-append P (take n xs) (seal_of key.bytes iv parts.0 parts.1).0 (All-take P n xs rest) ct.0 in
    All-append P (p.da ++ p.sa ++ encoding p.tag ++ p.secure_data ++ p.icv) []
    (All-append P (p.da ++ p.sa ++ encoding p.tag ++ p.secure_data) p.icv
    (All-append P (p.da ++ p.sa ++ encoding p.tag) p.secure_data before secured) ct.1)
    (All-nil P)

-- ---- what is sent is short

not_too_long : (options : TxOptions) (keys : List InstalledKey) (frame : List ℕ) (o : Option TxRow) (row : TxRow)
    → (sending_by options keys frame o).by ≡ Some row
    → length frame + octets_added (tag_sent options row frame) ≤ options.max_frame
not_too_long options keys frame None row e = absurd (cc)
not_too_long options keys frame (Some r) row e = by_tests _ _ refl e
  where
    by_tests : (exhausted long : Bool)
        → nat_lt options.max_frame (length frame + octets_added (tag_sent options r frame)) ≡ long
        → (if exhausted then not_protected no_sa else if long then not_protected too_long
        else record {
          leaving = protected r.key (protected_frame options (the_key keys r.key) r frame);
          by = Some r;
        }).by ≡ Some row
        → length frame + octets_added (tag_sent options row frame) ≤ options.max_frame
    by_tests false false is e =
        let same : r ≡ row = cc in
        subst (λ x. length frame + octets_added (tag_sent options x frame) ≤ options.max_frame) same
        (ltb-false options.max_frame (length frame + octets_added (tag_sent options r frame)) is)
    by_tests exhausted long is e = absurd (cc)

fits : (s : State) (frame : List ℕ) (row : TxRow) → (sending_of s frame).by ≡ Some row
    → length frame + octets_added (tag_sent (tx_options s) row frame) ≤ s.config.max_frame
fits s frame row e = by_tests s.options.protect _ e
  where
    by_tests : (protects : Bool) (other : Leaving)
        → (if protects then sending_by (tx_options s) s.keys frame (row_on s.tx) else not_protected other).by ≡ Some row
        → length frame + octets_added (tag_sent (tx_options s) row frame) ≤ s.config.max_frame
    by_tests true other e = not_too_long (tx_options s) s.keys frame (row_on s.tx) row e
    by_tests false other e = absurd (cc)

-- ---- one sending

pub the_key_has : (P : InstalledKey → Type 0) (keys : List InstalledKey) (n : ℕ) → P no_key → All P keys
    → P (the_key keys n)
the_key_has P [] n none all = none
the_key_has P (k ∷ keys) n none all =
    by_test _ (all 0 k (omega arith)) (the_key_has P keys n none (λ i default lt. all (suc i) default (omega arith)))
  where
    by_test : (b : Bool) → P k → P (the_key keys n) → P (unwrap_or (if b then Some k else key_row keys n) no_key)
    by_test true here there = here
    by_test false here there = there

abbrev Sends : Type 0
Sends = (s : State) (frame : List ℕ) (row : TxRow) → Protects s frame row

-- an endpoint whose keys are octets, and from which no frame of more than 16 m octets leaves
record IsGood (m : ℕ) (s : State) : Type 0 where
  sound : IsSound s
  keys : HasOctetKeys s
  leaves : LeavesAtMost (16 * m) s

sent_within : Sends → (m : ℕ) (s : State) (row : TxRow) (frame : List ℕ) → IsGood m s → AreOctets frame
    → frame_fault frame ≡ None
    → (sending_of s frame).by ≡ Some row → IsWithin (m + 1) (use_sent (tx_options s) (the_key s.keys row.key) row frame)
sent_within sends m s row frame good octets none by =
    let key = the_key s.keys row.key in
    let p = parts_sent (tx_options s) key row frame in
    let read = (sends s frame row good.sound none by).read in
    let most = good.sound.max_frame_most in
    let leaves = good.leaves in
    let long = read.octets in
    let here = fits s frame row by in
    parts_within m key _ p
    (sent_octets (tx_options s) key row frame
    (the_key_has (λ k. AreOctets k.bytes) s.keys row.key (All-nil (λ o. o < 256)) good.keys)
    good.sound.own_sci.octets read.is_tagged.tag octets)
    (omega (arith, long, here, most)) (omega (arith, long, here, leaves)) read.is_tagged.lengths.icv

-- ---- all that both ends seal

end_within : Sends → (m : ℕ) (rs : List RunWith) → All IsRunOfOctets rs → All (AtEachState (LeavesAtMost (16 * m))) rs
    → All (IsWithin (m + 1)) (map use_in (sent_by_all rs))
end_within sends m rs octets leaves =
    runs_have (IsWithin (m + 1)) (IsGood m) TakesOctets
    (λ s row frame good taken none by. sent_within sends m s row frame good taken none by) rs
    (λ i default lt n. record {
      sound = (octets i default lt).sound n;
      keys = (octets i default lt).keys n;
      leaves = leaves i default lt n;
    }) (λ i default lt. (octets i default lt).clients)

-- ---- few keys

pub few_keys_forge_by_length : Sends → Grammar → FewKeysForgeByLength
few_keys_forge_by_length sends grammar ahead m before now it hs runs leaves octets short most keys each =
    let P = IsWithin (m + 1) in
    let s = (closing_renewing it.run).k.secy in
    few_keys_forge ahead (m + 1) before now it hs
    (All-append P (map use_in (sent_by_all (runs_at ahead A before)))
    (map use_in (sent_by_all (runs_at ahead B before)))
    (end_within sends m (runs_at ahead A before) (runs A) (leaves A))
    (end_within sends m (runs_at ahead B before) (runs B) (leaves B)))
    (frame_within grammar m it.frame it.forged
    (opened_of_frame s it.frame it.forged it.opened) octets most short)
    keys each

sound_leaves : (rs : List RunWith) → All IsRunOfOctets rs → All (AtEachState (LeavesAtMost (16 * 578))) rs
sound_leaves rs octets i default lt n = ((octets i default lt).sound n).max_frame_most

pub few_keys_forge_in_any_history : Sends → Grammar → FewKeysForgeInAnyHistory
few_keys_forge_in_any_history sends grammar ahead before now it hs runs octets most keys each =
    few_keys_forge_by_length sends grammar ahead 578 before now it hs runs
    (λ e. sound_leaves (runs_at ahead e before) (runs e)) octets most most keys each
