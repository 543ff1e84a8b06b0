use Rattle.std.proofs.Common.{◌∙◌, ◌++◌, ◌∷◌, [], List, IsSome, ap, inl, refl}
use Rattle.domain_memory.specs.domain_base.declared.place.CellAt.{CellAt}
use Rattle.domain_memory.specs.fileset_files.declared.bitfiles.Bitfiles.{Bitfiles as Files}
use Rattle.domain_memory.proofs.OfStoredSet.StableSet.{has_set}
use Rattle.fileset_lending.specs.Shown.{shown, shown_is, shown_stands}
use Rattle.fileset_lending.proofs.Held.{always_err, changed_held, of_each, on_err_both, still}
use Rattle.fileset_lending.proofs.Misses.{given_less, kept_space}
use Rattle.fileset_lending.proofs.Rests.{kept_as, kept_with}
use Rattle.fileset_lending.specs.Rest.{parts_of}
use Rattle.fileset_lending.proofs.Arounds.{gone_around}
use Rattle.set_standing.proofs.PartsCalls.{refused_kept}
use Rattle.set_standing.proofs.PartsKept.{none_kept}
use Rattle.fileset_lending.proofs.KeptParts.{gone_keeps, same_kept}
use Rattle.fileset_lending.proofs.stored_bitfiles.StoredBitfiles.take_away.Goals as goal

pub remove-requires-clause-set : goal.remove-requires-clause-set
remove-requires-clause-set g c =
    let set = c.args.self.now in
    let pages = g.M.MetaPages.pages set.parts.pages in
    has_set set.parts.files.fileset set.parts.files.tags set.parts.space set.parts.cells pages set.held

pub remove-requires-clause-live : goal.remove-requires-clause-live
remove-requires-clause-live g c =
    let set = c.args.self.now in
    let pages = g.M.MetaPages.pages set.parts.pages in
    of_each set.parts.files.fileset set.parts.files.tags set.parts.space set.parts.cells pages set.held (λ s. IsSome (s c.args.tag)) c.requires

pub invariant_of-self : goal.invariant_of-self
invariant_of-self g c = record { held = c.args.self.now.held }

pub returns-in_err-reserve-clause-err : goal.returns-in_err-reserve-clause-err
returns-in_err-reserve-clause-err g c =
    let set = c.args.self.now in
    let pages = g.M.MetaPages.pages set.parts.pages in
    always_err (shown_is set.parts.files.fileset set.parts.files.tags set.parts.space set.parts.cells pages _ _ (shown_stands set.parts.files.fileset set.parts.files.tags set.parts.space set.parts.cells pages set.held)) _

pub invariant_of-self-2 : goal.invariant_of-self-2
invariant_of-self-2 g c =
    let set = c.args.self.now in
    let pages = g.M.MetaPages.pages set.parts.pages in
    record { held = changed_held c.remove.new.files.fileset c.remove.new.files.tags c.remove.new.space set.parts.cells (g.M.MetaPages.pages c.remove.new.pages) _ (shown set.parts.files.fileset set.parts.files.tags set.parts.space set.parts.cells pages set.held) c.remove.result (c.remove.ensures.ok _ (shown_stands set.parts.files.fileset set.parts.files.tags set.parts.space set.parts.cells pages set.held)) (on_err_both (λ none err. still set.parts.files c.remove.new.files set.parts.space c.remove.new.space set.parts.cells pages (g.M.MetaPages.pages c.remove.new.pages) (shown set.parts.files.fileset set.parts.files.tags set.parts.space set.parts.cells pages set.held) (shown_stands set.parts.files.fileset set.parts.files.tags set.parts.space set.parts.cells pages set.held) c.remove.ensures.same none err) c.remove.result c.remove.ensures.none c.remove.ensures.err) }

pub returns-in_err-reserve-clause-rest : goal.returns-in_err-reserve-clause-rest
returns-in_err-reserve-clause-rest g c =
    let set = c.args.self.now in
    let pages = g.M.MetaPages.pages set.parts.pages in
    let was = (shown_stands set.parts.files.fileset set.parts.files.tags set.parts.space set.parts.cells pages set.held) in
    let p = parts_of set.parts.files.tags pages set.parts.space set.parts.cells in
    kept_as _ _ _ _ _ _ _ _ _ refl refl c.reserve.ensures.items (same_kept p p refl refl) (none_kept set.parts.files.fileset set.settings.version set.settings.born p)

pub returns-in_err-at-clause-err : goal.returns-in_err-at-clause-err
returns-in_err-at-clause-err g c =
    let set = c.args.self.now in
    let pages = g.M.MetaPages.pages set.parts.pages in
    always_err (shown_is c.remove.new.files.fileset c.remove.new.files.tags c.remove.new.space set.parts.cells (g.M.MetaPages.pages c.remove.new.pages) _ _ (still set.parts.files c.remove.new.files set.parts.space c.remove.new.space set.parts.cells pages (g.M.MetaPages.pages c.remove.new.pages) (shown set.parts.files.fileset set.parts.files.tags set.parts.space set.parts.cells pages set.held) (shown_stands set.parts.files.fileset set.parts.files.tags set.parts.space set.parts.cells pages set.held) c.remove.ensures.same c.in_err-at.ensures.none c.in_err-at.ensures.err)) _

pub returns-in_err-at-clause-count : goal.returns-in_err-at-clause-count
returns-in_err-at-clause-count g c =
    let set = c.args.self.now in
    let pages = g.M.MetaPages.pages set.parts.pages in
    kept_space set.parts.space c.remove.new.space c.in_err-at.ensures.none

pub returns-in_err-at-clause-rest : goal.returns-in_err-at-clause-rest
returns-in_err-at-clause-rest g c =
    let set = c.args.self.now in
    let pages = g.M.MetaPages.pages set.parts.pages in
    let was = (shown_stands set.parts.files.fileset set.parts.files.tags set.parts.space set.parts.cells pages set.held) in
    let p = parts_of set.parts.files.tags pages set.parts.space set.parts.cells in
    kept_as _ _ _ _ _ _ _ _ _ (ap (λ (f : Files). f.fileset) c.remove.ensures.same) c.remove.ensures.before c.reserve.ensures.items (same_kept p (parts_of c.remove.new.files.tags (g.M.MetaPages.pages c.remove.new.pages) c.remove.new.space set.parts.cells) c.in_err-at.ensures.none refl) (refused_kept set.parts.files.fileset set.settings.version set.settings.born p (parts_of c.remove.new.files.tags (g.M.MetaPages.pages c.remove.new.pages) c.remove.new.space set.parts.cells) (ap (λ (f : Files). f.tags) c.remove.ensures.same) refl c.in_err-at.ensures.err (inl c.in_err-at.ensures.none))

pub returns-clause-ok : goal.returns-clause-ok
returns-clause-ok g c =
    let set = c.args.self.now in
    let pages = g.M.MetaPages.pages set.parts.pages in
    shown_is c.remove.new.files.fileset c.remove.new.files.tags c.remove.new.space set.parts.cells (g.M.MetaPages.pages c.remove.new.pages) _ _ (c.in_ok-at.ensures.ok _ (shown_stands set.parts.files.fileset set.parts.files.tags set.parts.space set.parts.cells pages set.held))

pub returns-clause-takes : goal.returns-clause-takes
returns-clause-takes g c = λ chains are. record {
  at = c.in_ok-at.at;
  listed = c.push_reserved.ensures.items ∙ ap (λ (xs : List CellAt). xs ++ c.in_ok-at.at ∷ []) c.reserve.ensures.items;
  removes = c.in_ok-at.ensures.removes chains are;
}

pub returns-clause-count : goal.returns-clause-count
returns-clause-count g c =
    let set = c.args.self.now in
    let pages = g.M.MetaPages.pages set.parts.pages in
    let was = (shown_stands set.parts.files.fileset set.parts.files.tags set.parts.space set.parts.cells pages set.held) in
    given_less (was.indexes c.args.tag) set.settings.group set.parts.space c.remove.new.space (c.in_ok-at.ensures.gives was.chains (was.indexes c.args.tag) was.stands.together.files (was.stands.indexed c.args.tag)).drops.waits

pub returns-clause-rest : goal.returns-clause-rest
returns-clause-rest g c =
    let set = c.args.self.now in
    let pages = g.M.MetaPages.pages set.parts.pages in
    let was = (shown_stands set.parts.files.fileset set.parts.files.tags set.parts.space set.parts.cells pages set.held) in
    let p = parts_of set.parts.files.tags pages set.parts.space set.parts.cells in
    kept_with _ _ _ _ _ _ _ c.in_ok-at.at _ _ (ap (λ (f : Files). f.fileset) c.remove.ensures.same) c.remove.ensures.before (c.push_reserved.ensures.items ∙ ap (λ (xs : List CellAt). xs ++ c.in_ok-at.at ∷ []) c.reserve.ensures.items)
    (gone_keeps p (parts_of c.remove.new.files.tags (g.M.MetaPages.pages c.remove.new.pages) c.remove.new.space set.parts.cells) set.settings.group (was.chains c.args.tag) (was.indexes c.args.tag) (c.in_ok-at.ensures.gives was.chains (was.indexes c.args.tag) was.stands.together.files (was.stands.indexed c.args.tag)) refl) (gone_around set.parts.files.fileset set.settings.version set.settings.born p (g.M.MetaPages.pages c.remove.new.pages) c.remove.new.space set.parts.files c.remove.new.files refl refl c.remove.ensures.same c.args.tag c.in_ok-at.at set.settings.group _ (c.in_ok-at.ensures.ok _ was) c.in_ok-at.ensures.removes c.in_ok-at.ensures.gives c.in_ok-at.ensures.sequences)
