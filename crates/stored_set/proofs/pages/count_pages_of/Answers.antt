use Rattle.std.proofs.Common.{◌≡◌, ◌∙◌, ◌*◌, ◌/◌, ◌≤◌, ℕ, IsSomeAnd, Option, Some, ap, subst, sym, arith}
use Rattle.std.proofs.Math.Nat.{mul-div_cancel_left}
use Rattle.index_pages.specs.domain_base.Limits.{file_pages, page_bytes}
use Rattle.index_pages.specs.domain_base.declared.place.Kind.{Kind}
use Rattle.index_pages.specs.page_store.Bitfiles.{Bitfile, Bitfiles as SetOf, IsDirectory, count_pages}
use Rattle.stored_set.proofs.Sized.{fits_here, kind_here, no_file_here, no_pages_here, size_here, the_file}
use Rattle.stored_set.proofs.pages.count_pages_of.Goals as goal

pub returns-in_default : goal.returns-in_default
returns-in_default g c = λ set was.
    sym (no_file_here c.args.files.now.fileset c.args.files.now.tags c.args.space.now c.args.cells.now (g.M.MetaPages.pages c.args.pages.now) set was c.args.tag (sym c.in_default.is ∙ c.attributes.ensures was.chains was.stands.together.files))

pub returns-in-File : goal.returns-in-File
returns-in-File g c = λ set was.
    let pages = g.M.MetaPages.pages c.args.pages.now in
    let fileset = c.args.files.now.fileset in
    let places = c.args.files.now.tags in
    let said = sym c.in-Some.is ∙ c.attributes.ensures was.chains was.stands.together.files in
    sym (no_pages_here fileset places c.args.space.now c.args.cells.now pages set was c.args.tag
    (subst (λ (k : Kind). IsSomeAnd (set c.args.tag) (λ (file : Bitfile). file.kind ≡ k)) c.in-File.is (kind_here fileset places c.args.space.now c.args.cells.now pages set was c.args.tag c.in-Some.what said)))

divided : (size count : ℕ) → size ≡ page_bytes * count → size / 8192 ≡ count
divided size count is = ap (λ n. n / 8192) is ∙ mul-div_cancel_left count (omega arith)

pub returns-in-Directory : goal.returns-in-Directory
returns-in-Directory g c = λ set was.
    let pages = g.M.MetaPages.pages c.args.pages.now in
    let fileset = c.args.files.now.fileset in
    let places = c.args.files.now.tags in
    let said = sym c.in-Some.is ∙ c.attributes.ensures was.chains was.stands.together.files in
    let directory : IsDirectory set c.args.tag = subst (λ (k : Kind). IsSomeAnd (set c.args.tag) (λ (file : Bitfile). file.kind ≡ k)) c.in-Directory.is (kind_here fileset places c.args.space.now c.args.cells.now pages set was c.args.tag c.in-Some.what said) in
    divided c.in-Some.what.size (count_pages set c.args.tag) (size_here fileset places c.args.space.now c.args.cells.now pages set was c.args.tag (the_file set c.args.tag directory) c.in-Some.what said)

pub overflow_cast-result : goal.overflow_cast-result
overflow_cast-result g c =
    let set = c.requires.0 in
    let was = c.requires.1 in
    let pages = g.M.MetaPages.pages c.args.pages.now in
    let fileset = c.args.files.now.fileset in
    let places = c.args.files.now.tags in
    let said = sym c.in-Some.is ∙ c.attributes.ensures was.chains was.stands.together.files in
    let directory : IsDirectory set c.args.tag = subst (λ (k : Kind). IsSomeAnd (set c.args.tag) (λ (file : Bitfile). file.kind ≡ k)) c.in-Directory.is (kind_here fileset places c.args.space.now c.args.cells.now pages set was c.args.tag c.in-Some.what said) in
    let count = divided c.in-Some.what.size (count_pages set c.args.tag) (size_here fileset places c.args.space.now c.args.cells.now pages set was c.args.tag (the_file set c.args.tag directory) c.in-Some.what said) in
    let fits : count_pages set c.args.tag ≤ file_pages = fits_here fileset places c.args.space.now c.args.cells.now pages set was c.args.tag (the_file set c.args.tag directory) in
    omega (arith, count, fits)
