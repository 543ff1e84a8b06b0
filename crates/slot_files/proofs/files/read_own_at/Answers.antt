use Rattle.std.proofs.Common.{◌∙◌, sym}
use Rattle.index_row_faults.specs.page_ways.Frame.{frame_in}
use Rattle.slot_files.specs.Files.{IsWhole}
use Rattle.slot_files.proofs.ReadFiles.{nameless_own, read_own, removed_own, whole_from}
use Rattle.slot_files.proofs.files.read_own_at.Goals as goal

pub returns-then-is_removed_at : goal.returns-then-is_removed_at
returns-then-is_removed_at g c =
    removed_own (g.M.MetaPages.pages c.args.pages.now) (frame_in c.args.frame.now) c.args.tag c.args.at.now (λ cells links. sym c.if-is_removed_at.true ∙ c.is_removed_at.ensures cells links)

pub returns-in_default : goal.returns-in_default
returns-in_default g c =
    nameless_own (g.M.MetaPages.pages c.args.pages.now) (frame_in c.args.frame.now) c.args.tag c.args.at.now (λ cells links. sym c.in_default.is ∙ c.attributes_at.ensures cells links)

pub look_at_source-requires : goal.look_at_source-requires
look_at_source-requires g c =
    let pages = g.M.MetaPages.pages c.args.pages.now in
    whole_from pages (frame_in c.args.frame.now) c.args.tag c.args.at.now c.source_at-from.result (IsWhole pages) c.requires.links c.source_at-from.ensures (λ cells links. sym c.if-is_removed_at.false ∙ c.is_removed_at.ensures cells links) c.requires.source

pub own_there-requires-clause-source : goal.own_there-requires-clause-source
own_there-requires-clause-source g c =
    let pages = g.M.MetaPages.pages c.args.pages.now in
    whole_from pages (frame_in c.args.frame.now) c.args.tag c.args.at.now c.source_at-from.result (IsWhole pages) c.requires.links c.source_at-from.ensures (λ cells links. sym c.if-is_removed_at.false ∙ c.is_removed_at.ensures cells links) c.requires.source

pub returns : goal.returns
returns g c =
    read_own (g.M.MetaPages.pages c.args.pages.now) (frame_in c.args.frame.now) c.args.tag c.args.at.now c.requires.links c.in-Some.is' c.source_at-from.result c.in_ok-file.file
    (λ cells links. sym c.if-is_removed_at.false ∙ c.is_removed_at.ensures cells links) (λ cells links. sym c.in-Some.is ∙ c.attributes_at.ensures cells links) c.source_at-from.ensures c.in_ok-file.ensures
