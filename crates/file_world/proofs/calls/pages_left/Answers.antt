use Rattle.std.proofs.Common.{◌≡◌, ◌∙◌, ◌+◌, List, [], ◌∷◌, ◌++◌, None, length, refl, sym, ap, arith}
use Rattle.std.proofs.lemmas.List.{length-append}
use Rattle.index_pages.specs.tag_dirs.declared.dir.TagPlace.{TagPlace}
use Rattle.index_pages.specs.tag_dirs.Directory.{home_with}
use Rattle.file_world.proofs.calls.pages_left.Goals as goal

-- no page is before the only one
only_one : (places : List TagPlace) (one last : TagPlace) → one ∷ [] ≡ places ++ last ∷ [] → home_with places last.index ≡ None
only_one [] one last is = refl
only_one (p ∷ ps) one last is = absurd (omega (arith, ap length is, length-append ps (last ∷ [])))

pub forget_tag_page-requires : goal.forget_tag_page-requires
forget_tag_page-requires c = λ places last is. only_one places _ last (sym c.in_ok-world.ensures.fresh.one ∙ is)
