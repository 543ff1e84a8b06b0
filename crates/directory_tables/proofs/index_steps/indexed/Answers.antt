use Rattle.std.proofs.Common.{◌≡◌, [], refl, sym, subst}
use Rattle.directory_rows.specs.page_store.Bitfiles.{Bitfiles, IsDirectory}
use Rattle.directory_rows.specs.directory_pages.Index.{index_pages}
use Rattle.directory_tables.proofs.index_steps.indexed.Goals as goal

pub build-requires-clause-directory : goal.build-requires-clause-directory
build-requires-clause-directory c = subst (λ (files : Bitfiles). IsDirectory files (record { slot = 1; seq = 1 })) (sym c.in_ok-set.ensures.files) refl

pub build-requires-clause-none : goal.build-requires-clause-none
build-requires-clause-none c = subst (λ (files : Bitfiles). index_pages files (record { slot = 1; seq = 1 }) ≡ []) (sym c.in_ok-set.ensures.files) refl
