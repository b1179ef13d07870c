use Rattle.{std.proofs.Common.{◌≡◌, ℕ, [], ap, refl, take}, macsec_gcm.proofs.States.hashing_more}
use Rattle.macsec_gcm.proofs.hash.PaddedHash.absorb_whole.Goals as goal

pub returns-clause-hashes : goal.returns-clause-hashes
returns-clause-hashes c = λ h blocks text at.
    let s = c.args.self.now in
    let rest : take s.waiting_count s.waiting ≡ [] = ap (λ (n : ℕ). take n s.waiting) c.requires.none in
    hashing_more s _ h blocks text c.args.octets.now at (rw rest c.requires.whole) c.requires.none refl (rw rest (c.absorb.ensures _ at.hashed))
