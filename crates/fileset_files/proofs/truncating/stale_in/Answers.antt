use Rattle.std.proofs.Common.{◌∙◌, sym}
use Rattle.fileset_files.proofs.Truncated.{keep_is, lowered_from, no_keep}
use Rattle.fileset_files.proofs.truncating.stale_in.Goals as goal

pub returns-in_default : goal.returns-in_default
returns-in_default g c = λ chain is. absurd (no_keep chain c.args.was.now (c.requires.was chain is) (sym c.in_default.is ∙ c.read_keep.ensures))

pub returns : goal.returns
returns g c = λ chain is.
    lowered_from c.args.size chain c.in-Some.keep c.in_ok-map.map c.stale_from.result (keep_is chain c.args.was.now c.in-Some.keep (c.requires.was chain is) (sym c.in-Some.is ∙ c.read_keep.ensures)) (c.in_ok-map.ensures chain is)
    c.stale_from.ensures.some c.stale_from.ensures.there c.stale_from.ensures.none
