use Rattle.std.proofs.Common.{◌≡◌, ◌<◌, ℕ, Bool, Some, length, slice_get, sym, subst, arith, rules, vec_len}
use Rattle.std.proofs.lemmas.Option.{slice_get_read}
use Rattle.std.proofs.lemmas.Result.{IfOk-weaker}
use mathlib.Core.Bool.{false≢true}
use Rattle.no_faults.specs.page_ways.Frame.{frame_in}
use Rattle.attached_domain.proofs.Looked.{directory_read, not_said, said_of}
use Rattle.attached_domain.proofs.tags.slot_says.Goals as goal

pub some_tag_says-requires : goal.some_tag_says-requires
some_tag_says-requires g c =
    let tags = c.args.tables.now.tags in
    let here = c.index.result.now in
    let size : vec_len tags ≡ length tags.items = search rules in
    let all = c.requires.all in
    let below : c.number.result < 32 = c.number.ensures.range in
    directory_read (g.M.MetaPages.pages c.args.pages.now) (frame_in c.args.frame.now) c.args.tables.now c.requires c.number.result below here
    (slice_get_read tags.items (vec_len tags) c.number.result here size (omega (arith, below, all, size)) c.index.ensures)

pub returns-then-not-is_asked : goal.returns-then-not-is_asked
returns-then-not-is_asked g c = (
  (λ is. absurd (false≢true is)),
  (λ says. absurd (not_said (g.M.MetaPages.pages c.args.pages.now) c.args.sign c.args.tables.now c.args.number c.slot.result.now c.slot.ensures.value (sym c.if-not-is_asked.ensures) says)),
)

pub returns : goal.returns
returns g c =
    let tags = c.args.tables.now.tags in
    let here = c.index.result.now in
    let size : vec_len tags ≡ length tags.items = search rules in
    let all = c.requires.all in
    let below : c.number.result < 32 = c.number.ensures.range in
    let read : slice_get tags.items c.number.result ≡ Some here = slice_get_read tags.items (vec_len tags) c.number.result here size (omega (arith, below, all, size)) c.index.ensures in
    let there : slice_get tags.items c.args.number ≡ Some here = subst (λ (n : ℕ). slice_get tags.items n ≡ Some here) c.number.ensures.value read in
    IfOk-weaker c.some_tag_says.result _ _
    (λ (says : Bool) is.
    said_of (g.M.MetaPages.pages c.args.pages.now) c.args.sign c.args.tables.now c.args.number c.slot.result.now here c.slot.ensures.value there (sym c.if-not-is_asked.ensures) says is)
    c.some_tag_says.ensures
