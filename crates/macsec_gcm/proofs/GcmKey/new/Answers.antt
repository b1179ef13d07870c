use Rattle.{
  std.{proofs.Common.{◌≡◌, List, ℕ, [], ap, ◌∙◌, slice_index_or}, specs.Int.{w128, from_be_bytes}},
  macsec_gcm.specs.Gcm.hash_subkey,
}
use Rattle.macsec_gcm.proofs.GcmKey.new.Goals as goal

pub invariant_of-result : goal.invariant_of-result
unfolding hash_subkey
invariant_of-result c =
    let subkey : c.from_be_bytes.result ≡ hash_subkey c.expand-schedule.result =
    c.from_be_bytes.ensures ∙ ap (λ (blocks : List (List ℕ)). from_be_bytes w128 (slice_index_or blocks 0 [])) c.encrypt6.ensures in
    c.of-powers.ensures ∙ subkey
