-- Raising a received-packet counter raises the sum of these counters by one; every other change keeps the sum.
use Rattle.std.{
  proofs.{Common.{◌*◌, ◌/◌}, Math.Nat.{add-mul-mod_self_left, mod-add-div}, lemmas.List.Sums.sum_by-cons},
  specs.{Cmp.Lexicographic.same_text, List.sum_by},
}
use Rattle.macsec_secy.{
  proofs.Names.{[], ◌%◌, ◌+◌, ◌^◌, ◌||◌, ◌∙◌, ◌∷◌, ◌≡◌, add-mod-mod, ap, AreScis, arith, at_channel, Bool},
  proofs.Names.{ChannelCounters, count_in_channel, count_verdict, Delayed, false, has_channel, if◌then◌else◌, Invalid},
  proofs.Names.{Late, List, map, mod-add-mod, NotValid, or_parts, Passed, plus, refl, RxCounters, same_sci, Sci},
  proofs.Names.{sci_of_counters, sym, true, Unchecked, Verdict, ℕ},
  specs.Sums.channel_packets_of,
}

pub one_sci : (s t : Sci) → same_sci s t ≡ true → s ≡ t
one_sci s t same = ap {B = Sci} (λ octets. record { 0 = octets }) (same_text s.0 t.0 (sym same))

abbrev pub IsOneMore : ℕ → ℕ → Type 0
IsOneMore new old = new % 2 ^ 64 ≡ plus (old % 2 ^ 64) 1

-- a sum is one more if one part of it is raised by one
pub IsOneMore-raised_part : (old new part : ℕ) → new + part ≡ old + plus part 1 → IsOneMore new old
IsOneMore-raised_part old new part e =
    let q = (part + 1) / 2 ^ 64 in
    let all = mod-add-div (part + 1) (2 ^ 64) in
    let more : new + 2 ^ 64 * q ≡ old + 1 = omega (arith, e, all) in
    sym (add-mul-mod_self_left new (2 ^ 64) q) ∙ ap (λ n. n % 2 ^ 64) more ∙ sym (mod-add-mod old (2 ^ 64) 1)

-- a sum is one more if one part of it is one more
pub IsOneMore-add_left : (other new old : ℕ) → IsOneMore new old → IsOneMore (other + new) (other + old)
IsOneMore-add_left other new old one =
    let more : other + (old + 1) ≡ other + old + 1 = omega arith in
    sym (add-mod-mod other new (2 ^ 64)) ∙ ap (λ n. (other + n) % 2 ^ 64) (one ∙ mod-add-mod old (2 ^ 64) 1) ∙ add-mod-mod other (old + 1) (2 ^ 64)
    ∙ ap (λ n. n % 2 ^ 64) more ∙ sym (mod-add-mod (other + old) (2 ^ 64) 1)

pub IsOneMore-add_right : (new old rest : ℕ) → IsOneMore new old → IsOneMore (new + rest) (old + rest)
IsOneMore-add_right new old rest one =
    let left : new + rest ≡ rest + new = omega arith in
    let right : old + rest ≡ rest + old = omega arith in
    rw (left, right) (IsOneMore-add_left rest new old one)

pub mod-as_plus_0 : (n : ℕ) → n % 2 ^ 64 ≡ plus (n % 2 ^ 64) 0
mod-as_plus_0 n = omega arith

-- ---- SCs

-- a verdict raises the sum of its SC
abbrev pub RaisesOne : Verdict → Type 0
RaisesOne verdict = (c : RxCounters) → IsOneMore (channel_packets_of (count_verdict verdict c)) (channel_packets_of c)

pub RaisesOne-Late : RaisesOne Late
RaisesOne-Late c = IsOneMore-raised_part _ _ c.in_pkts_late (omega arith)

pub RaisesOne-NotValid : RaisesOne NotValid
RaisesOne-NotValid c = IsOneMore-raised_part _ _ c.in_pkts_not_valid (omega arith)

pub RaisesOne-Unchecked : RaisesOne Unchecked
RaisesOne-Unchecked c = IsOneMore-raised_part _ _ c.in_pkts_unchecked (omega arith)

pub RaisesOne-Delayed : RaisesOne Delayed
RaisesOne-Delayed c = IsOneMore-raised_part _ _ c.in_pkts_delayed (omega arith)

pub RaisesOne-Invalid : RaisesOne Invalid
RaisesOne-Invalid c = IsOneMore-raised_part _ _ c.in_pkts_invalid (omega arith)

pub RaisesOne-Passed : RaisesOne Passed
RaisesOne-Passed c = IsOneMore-raised_part _ _ c.in_pkts_ok (omega arith)

abbrev pub channels_packets : List ChannelCounters → ℕ
channels_packets rows = sum_by (λ row. channel_packets_of row.counters) rows

-- if no SC has the SCI, nothing changes
pub map-at_channel_elsewhere : (change : ChannelCounters → ChannelCounters) (sci : Sci) (rows : List ChannelCounters) → has_channel (map sci_of_counters rows) sci ≡ false →
    map (at_channel change sci) rows ≡ rows
map-at_channel_elsewhere change sci [] none = refl
map-at_channel_elsewhere change sci (row ∷ rows) none =
    let parts = or_parts (same_sci row.sci sci) (has_channel (map sci_of_counters rows) sci) none in
    ap (λ b. (if b then change row else row) ∷ map (at_channel change sci) rows) parts.0
    ∙ ap (λ rs. row ∷ rs) (map-at_channel_elsewhere change sci rows parts.1)

-- if an SC has the SCI, only that SC counts the frame
pub IsOneMore-channels_packets : (verdict : Verdict) → RaisesOne verdict → (sci : Sci) (an : ℕ) (rows : List ChannelCounters) → AreScis (map sci_of_counters rows) →
    has_channel (map sci_of_counters rows) sci ≡ true → IsOneMore (channels_packets (map (at_channel (count_in_channel verdict an) sci) rows)) (channels_packets rows)
IsOneMore-channels_packets verdict raises sci an [] distinct there = cc
IsOneMore-channels_packets verdict raises sci an (row ∷ rows) distinct there =
    rw (sum_by-cons counted (after row) (map after rows), sum_by-cons counted row rows)
    (by_test (same_sci row.sci sci) refl (IsOneMore-channels_packets verdict raises sci an rows distinct.2) there)
  where
    counted : ChannelCounters → ℕ
    counted r = channel_packets_of r.counters

    after : ChannelCounters → ChannelCounters
    after r = at_channel (count_in_channel verdict an) sci r

    by_test : (b : Bool) → same_sci row.sci sci ≡ b → (has_channel (map sci_of_counters rows) sci ≡ true → IsOneMore (channels_packets (map after rows)) (channels_packets rows)) →
        (b || has_channel (map sci_of_counters rows) sci) ≡ true →
        IsOneMore (channel_packets_of (if b then count_in_channel verdict an row else row).counters + channels_packets (map after rows))
        (channel_packets_of row.counters + channels_packets rows)
    by_test true same later there' =
        let none : has_channel (map sci_of_counters rows) sci ≡ false = ap (has_channel (map sci_of_counters rows)) (sym (one_sci row.sci sci same)) ∙ distinct.1 in
        let here = IsOneMore-add_right _ (channel_packets_of row.counters) (channels_packets rows) (raises row.counters) in
        rw (map-at_channel_elsewhere (count_in_channel verdict an) sci rows none) here
    by_test false other later there' = IsOneMore-add_left (channel_packets_of row.counters) _ _ (later there')

-- a change that keeps each SC's counters keeps the sum
pub channels_packets-at_channel : (change : ChannelCounters → ChannelCounters) → ((row : ChannelCounters) → (change row).counters ≡ row.counters) →
    (sci : Sci) (rows : List ChannelCounters) →
    channels_packets (map (at_channel change sci) rows) ≡ channels_packets rows
channels_packets-at_channel change keeps sci [] = refl
channels_packets-at_channel change keeps sci (row ∷ rows) =
    sum_by-cons counted (at_channel change sci row) (map (at_channel change sci) rows) ∙
    ap (λ n. n + channels_packets (map (at_channel change sci) rows)) (by_test (same_sci row.sci sci)) ∙
    ap (λ n. counted row + n) (channels_packets-at_channel change keeps sci rows) ∙
    sym (sum_by-cons counted row rows)
  where
    counted : ChannelCounters → ℕ
    counted r = channel_packets_of r.counters

    by_test : (b : Bool) → counted (if b then change row else row) ≡ counted row
    by_test true = ap channel_packets_of (keeps row)
    by_test false = refl
