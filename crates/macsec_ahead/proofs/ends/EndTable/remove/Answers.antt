-- What is left is filtered.
use Rattle.{
  std.proofs.{Common.{◌≡◌, ◌∙◌, List, ap, filter, rules, ◌==◌, not}, lemmas.Fn.filter_same},
  macsec_ahead.specs.{Ends.{Ends, is_under, without_key}, declared.ends.{EndedKey.EndedKey, EndedSa.EndedSa}},
}
use Rattle.macsec_ahead.proofs.ends.EndTable.remove.Goals as goal

pub returns : goal.returns
returns c =
    let key = c.args.key in
    let entries : c.retain.new.self.items ≡ filter (λ (e : EndedSa). not (e.key == key)) c.self.inside.entries.items =
    filter_same _ _ _ (λ x b f' called. search rules) _ _ c.retain.ensures.filtered in
    let keys : c.retain-2.new.self.items ≡ filter (λ (e : EndedKey). not (is_under key e)) c.self.inside.keys.items =
    filter_same _ _ _ (λ x b f' called. search rules) _ _ c.retain-2.ensures.filtered in
    rw (entries, keys) (ap (without_key key) c.self.view_is)
