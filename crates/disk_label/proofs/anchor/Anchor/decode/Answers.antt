use Rattle.std.proofs.Common.{[], ◌∷◌, ◌∙◌}
use Rattle.disk_label.specs.Body.{anchor_from, home_from}
use Rattle.disk_label.proofs.anchor.Anchor.decode.Goals as goal

pub returns : goal.returns
unfolding anchor_from
returns c = λ i. record {
  number = c.long.ensures i;
  version = c.word.ensures i;
  log_vol = c.word-2.ensures i;
  log_page = c.word-3.ensures i;
  log_pages = c.word-4.ensures i;
  start = c.word-5.ensures i;
  group = c.long-2.ensures i;
  table = (c.home_of.ensures ∙ (λ j. home_from (c.word-6.ensures j) (c.word-7.ensures j))) i;
  members = c.member_of.ensures i ∷ c.member_of-2.ensures i ∷ c.member_of-3.ensures i ∷ c.member_of-4.ensures i ∷ c.member_of-5.ensures i ∷ c.member_of-6.ensures i ∷ c.member_of-7.ensures i ∷ c.member_of-8.ensures i ∷ [];
  slot = c.args.slot;
}
