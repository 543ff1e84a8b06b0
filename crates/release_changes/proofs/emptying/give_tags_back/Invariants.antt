use Rattle.std.proofs.Common.{◌≡◌, drop}
use Rattle.domain_changes.specs.release_steps.Links.{homes_of}
use Rattle.release_changes.proofs.TagsBack.{TagsLeft}
use Rattle.release_changes.proofs.emptying.give_tags_back.Given as goal

-- the pages after the place are left
abbrev pub invariant-loop-place : goal.invariant-loop-place
invariant-loop-place g l =
    let pages = g.M.MetaPages.pages in
    record {
      left : TagsLeft l.fn.group l.initial.space l.space (pages l.initial.pages) (pages l.pages) (homes_of l.places) (homes_of (drop l.place-index l.places));
      before : g.M.MetaPages.before l.pages ≡ g.M.MetaPages.before l.initial.pages;
    }
