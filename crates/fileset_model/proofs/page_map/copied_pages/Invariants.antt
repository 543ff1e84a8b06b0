use Rattle.std.proofs.Common.{◌≡◌, take}
use Rattle.fileset_model.proofs.page_map.copied_pages.Given as goal

abbrev pub invariant-loop-q : goal.invariant-loop-q
invariant-loop-q l = l.copies.items ≡ take l.q-index l.pages
