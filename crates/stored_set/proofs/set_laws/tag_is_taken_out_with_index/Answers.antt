use Rattle.stored_set.proofs.GivenBack.{taken_with_index}
use Rattle.stored_set.proofs.set_laws.tag_is_taken_out_with_index.Goals as goal

pub returns : goal.returns
returns c = λ fileset group places space space_now cells old between new chains indexes files tag was tags_low live beside together drops.
    taken_with_index fileset group places space space_now cells old between new chains indexes files was tags_low tag live beside together drops
