use Rattle.std.proofs.Common.{refl, arith}
use Rattle.page_cache.proofs.Entries.{fewer_behind}
use Rattle.page_cache.proofs.frames.bring_clean_to_end.Goals as goal

pub loop-passed-init : goal.loop-passed-init
loop-passed-init c =
    let fewer = fewer_behind c.args.frames.now.entries c.requires.clean in
    record {
      keeps = record { frames = λ q. refl; order = refl; kept = refl };
      nearer = omega (arith, fewer, c.requires.most);
      cap = refl;
    }
