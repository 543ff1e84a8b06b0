use Rattle.file_world.proofs.calls.cut.Goals as goal

pub returns : goal.returns
returns c = let world = c.args.world.now in (_, (c.in_ok-left.ensures.together world.space world.cells c.requires.0 c.requires.1).together)
