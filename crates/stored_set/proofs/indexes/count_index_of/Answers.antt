use Rattle.std.proofs.Common.{◌≡◌, ◌∙◌, ◌-◌, ◌^◌, ◌<◌, ◌≤◌, ℕ, Some, None, length, min, ap, sym, subst, arith}
use Rattle.std.proofs.Math.Nat.{min-eq_left}
use Rattle.stored_set.proofs.Indexed.{counted, homes_at, no_homes}
use Rattle.stored_set.proofs.Sized.{index_fits_here, index_count_here, the_file}
use Rattle.stored_set.proofs.indexes.count_index_of.Goals as goal

pub count_index-requires : goal.count_index-requires
count_index-requires g c =
    let set = c.requires.set.0 in
    let was = c.requires.set.1 in (
      was.indexes c.args.tag,
      homes_at c.args.files.now.fileset c.args.files.now.tags c.args.space.now c.args.cells.now (g.M.MetaPages.pages c.args.pages.now) set was c.args.tag (c.requires.directory set was) (Some c.in-Some.index) (sym c.in-Some.is ∙ c.index.ensures was.chains was.stands.together.files),
    )

least : (n m : ℕ) → m ≡ n → m < 2 ^ 32 → min n (2 ^ 32 - 1) ≡ m
least n m same fits = min-eq_left (omega (arith, same, fits)) ∙ sym same

pub returns-in-Some : goal.returns-in-Some
returns-in-Some g c = λ set was.
    let pages = g.M.MetaPages.pages c.args.pages.now in
    let fileset = c.args.files.now.fileset in
    let places = c.args.files.now.tags in
    let space = c.args.space.now in
    let cells = c.args.cells.now in
    let directory = c.requires.directory set was in
    let at = the_file set c.args.tag directory in
    c.count_index.ensures (was.indexes c.args.tag) (homes_at fileset places space cells pages set was c.args.tag directory (Some c.in-Some.index) (sym c.in-Some.is ∙ c.index.ensures was.chains was.stands.together.files))
    ∙ least (length (was.indexes c.args.tag)) _ (counted fileset places space cells pages set was c.args.tag directory)
    (subst (λ n. n < 2 ^ 32) (sym (index_count_here fileset places space cells pages set was c.args.tag at)) (index_fits_here fileset places space cells pages set was c.args.tag at))

pub returns-in-None : goal.returns-in-None
returns-in-None g c = λ set was.
    let pages = g.M.MetaPages.pages c.args.pages.now in
    let fileset = c.args.files.now.fileset in
    let places = c.args.files.now.tags in
    let directory = c.requires.directory set was in
    sym (counted fileset places c.args.space.now c.args.cells.now pages set was c.args.tag directory
    ∙ no_homes pages (was.indexes c.args.tag) (homes_at fileset places c.args.space.now c.args.cells.now pages set was c.args.tag directory None (sym c.in-None.is ∙ c.index.ensures was.chains was.stands.together.files)))
