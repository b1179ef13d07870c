use Rattle.{std.proofs.Common.{[], List, ℕ, ap₂, sym}, macsec_gcm.specs.Gcm.{gctr, seal_of}}
use Rattle.macsec_gcm.proofs.GcmKey.seal.Goals as goal

pub returns : goal.returns
unfolding gctr seal_of
returns c =
    let key = c.args.self.now in
    let iv = c.args.iv.now in
    let aad = c.args.aad.now in
    let sealed = c.data.ensures key iv aad [] (c.aad.ensures key iv [] c.before_text-sealer.ensures) in
    let tag = c.finish.ensures key iv aad c.args.text.now sealed.0 c.requires.aad_length c.requires.text_length in
    ap₂ (λ (ciphertext tag : List ℕ). (ciphertext, tag)) (sym sealed.1) tag
