use Rattle.{
  std.proofs.Common.{◌≡◌, ◌++◌, ◌-◌, ◌∙◌, List, ℕ, ap, refl, take, length, length-append, arith, rules, length-take-le},
  macsec_gcm.proofs.States.{hashing_more, put_mid-end},
}
use Rattle.macsec_gcm.proofs.hash.PaddedHash.complete.Goals as goal

pub returns-clause-hashes : goal.returns-clause-hashes
returns-clause-hashes c = λ h blocks text at.
    let s = c.args.self.now in
    let long : length s.waiting ≡ 16 = search rules in
    let rest : List ℕ = take s.waiting_count s.waiting in
    let rest_long : length rest ≡ s.waiting_count = length-take-le s.waiting_count s.waiting (omega arith) in
    let block =
    put_mid-end s.waiting_count (16 - s.waiting_count) s.waiting c.copy_from_slice.new.self (omega arith)
    ∙ ap (λ (xs : List ℕ). rest ++ xs) c.copy_from_slice.ensures.after in
    hashing_more s _ h blocks text c.args.octets.now at (omega (arith, length-append rest c.args.octets.now)) refl refl
    (rw block at (c.absorb.ensures _ at.hashed))
