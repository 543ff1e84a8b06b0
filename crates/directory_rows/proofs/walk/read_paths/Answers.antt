use Rattle.std.proofs.Common.{◌≡◌, ◌<◌, length, subst, arith}
use Rattle.directory_pages.specs.domain_base.declared.place.Kind.TheVariants.{Directory}
use Rattle.directory_rows.specs.Ways.{rows_by}
use Rattle.directory_rows.proofs.AllLed.{IsListed, are_all_led, list_on}
use Rattle.directory_rows.proofs.walk.read_paths.Goals as goal

pub returns-then-at-len : goal.returns-then-at-len
returns-then-at-len c =
    let all : c.loop-at.at ≡ length c.loop-at.found.items = omega (arith, c.if-at-len.true, c.len.ensures) in
    are_all_led (rows_by c.args.directories.now) (c.args.root, Directory) c.requires c.loop-at.found.items
    (subst (λ n. IsListed (rows_by c.args.directories.now) (c.args.root, Directory) n c.loop-at.found.items) all c.loop-at.invariant)

pub loop-at-preserved : goal.loop-at-preserved
loop-at-preserved c =
    let within : c.loop-at.at < length c.loop-at.found.items = omega (arith, c.loop-at.invariant.within, c.if-at-len.false, c.len.ensures) in
    list_on (rows_by c.args.directories.now) (c.args.root, Directory) c.requires c.loop-at.at c.loop-at.found.items c.push_rows_of.new.found.items c.loop-at.invariant within c.in_ok-push_rows_of.ensures
