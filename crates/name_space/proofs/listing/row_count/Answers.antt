use Rattle.std.proofs.Common.{◌∙◌}
use Rattle.name_space.proofs.Listed.{row_count_is}
use Rattle.name_space.proofs.listing.row_count.Goals as goal

pub returns : goal.returns
returns g c slot names path shown led =
    let files = g.S.BitfileSet.files c.args.set.now in
    c.row_count.ensures ∙ row_count_is files slot c.args.dir names c.requires.live (names.directories c.args.dir c.requires.live).names path shown led
