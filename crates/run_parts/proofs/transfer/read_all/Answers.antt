use Rattle.std.proofs.Common.{◌≡◌, ◌++◌, take, arith, sym, subst}
use Rattle.std.proofs.KnownBytes.{Consumes-trans}
use Rattle.std.proofs.lemmas.Grind.{common_steps}
use Rattle.std.proofs.lemmas.Result.{err_from_is_err_and}
use Rattle.std.specs.Io.KnownBytes.{Consumes}
use Rattle.run_parts.proofs.transfer.read_all.Goals as goal

pub loop-bytes-preserved : goal.loop-bytes-preserved
loop-bytes-preserved g c =
    let same : c.extend_from_slice.new.self.items ≡ c.loop-bytes.bytes.items ++ take c.in_ok-taken.taken c.read.new.out =
    c.in_ok-extend_from_slice.ensures.items in
    record {
      short = grind (arith, common_steps);
      taken = subst (Consumes _ _) (sym same) (Consumes-trans _ _ _ _ _ c.loop-bytes.invariant.taken c.in_ok-taken.ensures.bytes.0);
      count = grind (arith, common_steps);
      room = grind (arith, common_steps);
    }

pub returns-in_err-extend_from_slice-clause-taken : goal.returns-in_err-extend_from_slice-clause-taken
returns-in_err-extend_from_slice-clause-taken g c =
    let refused = err_from_is_err_and c.from_residual-in_err-extend_from_slice.result c.from_residual-in_err-extend_from_slice.ensures.1 in
    (c.loop-bytes.bytes.items ++ take c.in_ok-taken.taken c.read.new.out, Consumes-trans _ _ _ _ _ c.loop-bytes.invariant.taken c.in_ok-taken.ensures.bytes.0, rw (refused.1, refused.2) (grind (arith, common_steps)))
