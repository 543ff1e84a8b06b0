use Rattle.fileset_table.proofs.Written.{first_tag_there, quota_there}
use Rattle.fileset_table.proofs.writing.put_removed.Goals as goal

pub returns-clause-slot : goal.returns-clause-slot
returns-clause-slot c =
    let parts = c.put_parts.ensures.parts in
    (parts.begins, first_tag_there _ _ _ c.put_parts.new.out parts, quota_there _ _ _ c.put_parts.new.out parts)
