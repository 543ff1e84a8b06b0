use Rattle.std.proofs.Common.{◌∙◌, ◌↔◌, Bool, Result, Ok, Err, IfOk, IsTrue, inl, inr, refl, sym, ap, ⊎_elim}
use Rattle.std.specs.Option.{option_copied}
use mathlib.Core.Bool.{false≢true}
use Rattle.page_ways.specs.Frame.{frame_in}
use Rattle.cell_faults.specs.Rules.{HasWrongPlace, IsWrongThere}
use Rattle.cell_faults.proofs.WrongCell.{moved}
use Rattle.cell_faults.proofs.WrongPages.{one_header}
use Rattle.cell_faults.proofs.local.is_wrong_page.Goals as goal

pub returns-then-has_wrong_header : goal.returns-then-has_wrong_header
returns-then-has_wrong_header g c =
    let pages = g.M.MetaPages.pages c.args.pages.now in
    let page = c.args.page.now in
    let bytes = c.in-Some.bytes.now in
    let is = moved pages (frame_in c.args.frame.now) page.home page.place c.requires.0 bytes c.requires.1 (sym c.get.ensures ∙ ap option_copied c.in-Some.is) in
    ((λ _. inl (bytes, is, c.has_wrong_header.ensures.0 c.if-has_wrong_header.true)), (λ _. refl))

pub returns-then-branch : goal.returns-then-branch
returns-then-branch g c = ((λ _. inr (inl (c.in_ok-has_wrong_cell.ensures.0 c.if-branch.true))), (λ _. refl))

-- of the answer of a call, where it says one thing exactly where another holds
alike : {E : Type 0} (r : Result Bool E) (one other : Type 0) → IfOk r (λ b. IsTrue b ↔ one) → (one → other) → (other → one) → IfOk r (λ b. IsTrue b ↔ other)
alike (Ok b) one other says to from = ((λ told. to (says.0 told)), (λ is. says.1 (from is)))
alike (Err e) one other says to from = tt

pub returns : goal.returns
returns g c =
    let pages = g.M.MetaPages.pages c.args.pages.now in
    let frame = frame_in c.args.frame.now in
    let page = c.args.page.now in
    alike c.has_wrong_place.result (HasWrongPlace pages frame c.args.table.now page.home) (IsWrongThere pages frame c.args.table.now page) c.has_wrong_place.ensures (λ place. inr (inr place))
    (λ wrong. ⊎_elim
    (λ header. absurd (false≢true (sym c.if-has_wrong_header.false ∙ c.has_wrong_header.ensures.1 (one_header pages frame page c.in-Some.bytes.now (sym c.get.ensures ∙ ap option_copied c.in-Some.is) header))))
    (λ others. ⊎_elim (λ cell. absurd (false≢true (sym c.if-branch.false ∙ c.in_ok-has_wrong_cell.ensures.1 cell))) (λ place. place) others) wrong)
