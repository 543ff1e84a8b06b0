use Rattle.std.proofs.Common.{◌∙◌, ◌∷◌, ◌++◌, List, [], refl, ap, subst, rules}
use Rattle.std.proofs.lemmas.Bool.{false_from_ne_true}
use Rattle.domain_memory.specs.page_store.Pages.{same_home}
use Rattle.domain_memory.specs.tag_dirs.Directory.{AddsPage}
use Rattle.domain_memory.specs.tag_dirs.declared.dir.TagPlace.{TagPlace}
use Rattle.domain_memory.specs.free_space.Spaces.{kept_spaces}
use Rattle.domain_memory.proofs.OfFreeSpace.Kept.{kept-with_page}
use Rattle.domain_memory.proofs.OfMetadataCells.Changed.{homes_same}
use Rattle.domain_memory.proofs.OfFilesetFiles.NewDirectory.{first_new}
use Rattle.domain_memory.specs.staged_pages.Store.{pages_of}
use Rattle.domain_changes.proofs.KeptParts.{same_volumes, space_kept}
use Rattle.domain_changes.proofs.TableJoined.{fresh_page}
use Rattle.domain_changes.proofs.tags.begin_tags.Goals as goal

pub returns-in_err-add_page-clause-kept : goal.returns-in_err-add_page-clause-kept
returns-in_err-add_page-clause-kept c =
    space_kept c.args.memory.now _ refl c.add_page.ensures.before
    (same_volumes c.args.memory.now.space c.allocate.new.self (ap kept_spaces c.in-Some.ensures.taken ∙ kept-with_page c.in-Some.home.page c.args.memory.now.space c.in-Some.home.vol))

pub returns-clause-kept : goal.returns-clause-kept
returns-clause-kept c =
    space_kept c.args.memory.now _ refl c.add_page.ensures.before
    (same_volumes c.args.memory.now.space c.allocate.new.self (ap kept_spaces c.in-Some.ensures.taken ∙ kept-with_page c.in-Some.home.page c.args.memory.now.space c.in-Some.home.vol))

pub returns-clause-ok : goal.returns-clause-ok
returns-clause-ok c =
    let place : TagPlace = record { index = 0; home = c.in-Some.home } in
    let old = pages_of c.args.memory.now.pages in
    let new = pages_of c.add_page.new.pages in
    let adds = subst (λ (ps : List TagPlace). AddsPage place ps old new) c.new-tags.ensures c.in_ok-add_page.ensures.added in
    record {
      of_slot = c.new.ensures.fileset;
      tags = c.new.ensures.tags ∙ c.in_ok-add_page.ensures.ok ∙ ap (λ (ps : List TagPlace). ps ++ place ∷ []) c.new-tags.ensures;
      low = search rules;
      free = c.in-Some.ensures.some;
      space = c.in-Some.ensures.taken;
      fresh = fresh_page new c.in-Some.home (first_new c.in-Some.home old new adds);
      others = λ h differs. adds.elsewhere h refl (false_from_ne_true (same_home h c.in-Some.home) (λ same. differs (homes_same h c.in-Some.home same)));
      before = c.add_page.ensures.before;
      same = refl;
    }
