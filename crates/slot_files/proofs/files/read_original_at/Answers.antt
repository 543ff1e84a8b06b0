use Rattle.std.proofs.Common.{◌∙◌, sym}
use Rattle.index_row_faults.specs.page_ways.Frame.{frame_in}
use Rattle.slot_files.proofs.ReadFiles.{keepless_original, nameless_original, read_original, removed_original}
use Rattle.slot_files.proofs.files.read_original_at.Goals as goal

pub returns-then-is_removed_at : goal.returns-then-is_removed_at
returns-then-is_removed_at g c =
    removed_original (g.M.MetaPages.pages c.args.pages.now) (frame_in c.args.frame.now) c.args.tag c.args.at.now (λ cells links. sym c.if-is_removed_at.true ∙ c.is_removed_at.ensures cells links)

pub returns-in_default : goal.returns-in_default
returns-in_default g c =
    nameless_original (g.M.MetaPages.pages c.args.pages.now) (frame_in c.args.frame.now) c.args.tag c.args.at.now (λ cells links. sym c.in_default.is ∙ c.attributes_at.ensures cells links)

pub returns-in_default-keep_at : goal.returns-in_default-keep_at
returns-in_default-keep_at g c =
    keepless_original (g.M.MetaPages.pages c.args.pages.now) (frame_in c.args.frame.now) c.args.tag c.args.at.now (λ cells links. sym c.in_default-keep_at.is ∙ c.keep_at.ensures cells links)

pub returns : goal.returns
returns g c =
    read_original (g.M.MetaPages.pages c.args.pages.now) (frame_in c.args.frame.now) c.args.tag c.args.at.now c.requires.links c.in-Some.is' c.in-Some-keep_at.keep c.in_ok-file.file
    (λ cells links. sym c.if-is_removed_at.false ∙ c.is_removed_at.ensures cells links) (λ cells links. sym c.in-Some.is ∙ c.attributes_at.ensures cells links) (λ cells links. sym c.in-Some-keep_at.is ∙ c.keep_at.ensures cells links) c.in_ok-file.ensures
