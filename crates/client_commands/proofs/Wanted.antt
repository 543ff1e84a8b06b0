-- A command that finds no page in a domain that was drained.
use Rattle.std.proofs.Common.{◌≡◌, ◌∙◌, ◌+◌, ◌-◌, ◌/◌, ◌<◌, ◌≤◌, ◌==◌, ℕ, Bool, true, false, List, Option, None, Some, IfSome, IfErr, Result, Err, length, get_or, sum_by, zero, suc, [], ◌∷◌, refl, sym, ap, subst, arith, eqb-true, if◌then◌else◌}
use Rattle.std.proofs.Math.Nat.{div-mul-le_self}
use Rattle.std.proofs.lemmas.Nat.{le-div}
use Rattle.std.proofs.lemmas.List.FromFn.{length-range_with_len}
use Rattle.std.proofs.lemmas.List.Sums.{sum_by-cons}
use Rattle.std.specs.List.{range_with_len}
use Rattle.std.specs.FinMap as map
use Rattle.file_commands.specs.page_store.Pages.{Pages}
use Rattle.file_commands.specs.free_space.Spaces.{Spaces, waiting_pages}
use Rattle.file_commands.specs.free_space.VolumeSpace.{VolumeSpace}
use Rattle.file_commands.specs.free_space.declared.waiting.Waiting.{Waiting}
use Rattle.file_commands.specs.fileset_model.Apply.{refusal_of}
use Rattle.file_commands.specs.fileset_model.Filesets.{FilesetMap}
use Rattle.file_commands.specs.fileset_values.Orders.{Name, Path}
use Rattle.file_commands.specs.fileset_model.Pages.{pages_of}
use Rattle.file_commands.specs.fileset_model.Paths.{first_refusal}
use Rattle.file_commands.specs.fileset_values.declared.command.Command.{Command}
use Rattle.file_commands.specs.fileset_values.declared.command.Command.TheVariants as command
use Rattle.file_commands.specs.fileset_values.declared.command.Owner.{Owner}
use Rattle.file_commands.specs.fileset_values.declared.command.Place.{Place}
use Rattle.file_commands.specs.fileset_values.declared.entry.Entry.{Entry}
use Rattle.file_commands.specs.fileset_values.declared.reply.Refusal.{Refusal}
use Rattle.file_commands.specs.fileset_values.declared.reply.Refusal.TheVariants.{NoSpace}
use Rattle.file_commands.specs.fileset_values.declared.reply.Reply.{Reply}
use Rattle.file_commands.specs.fileset_values.declared.reply.Reply.TheVariants.{Refused}
use Rattle.file_commands.specs.legal_histories.Point.{Point, Tight}
use Rattle.file_commands.specs.legal_histories.Room.{need}
use Rattle.file_commands.specs.legal_histories.State.{State}
use Rattle.file_commands.specs.legal_histories.Step.{Step, TakesSpace, refusal_in}
use Rattle.file_commands.specs.legal_histories.Step.Step.{no_space}
use Rattle.file_commands.specs.legal_histories.VolumeReply.{is_movers}
use Rattle.file_commands.specs.legal_histories.Volumes.{volume_refusal}
use Rattle.file_commands.specs.legal_histories.GoingOn.{ComesTo, LeadsOn}
use Rattle.file_commands.specs.domain_layout.Reached.{Frame}
use Rattle.file_commands.specs.domain_memory.Memory.{StandsFor}
use Rattle.file_commands.specs.domain_memory.declared.memory.DomainMemory.{DomainMemory}
use Rattle.file_commands.specs.domain_memory.Going.{NoneWaits}
use Rattle.file_commands.specs.domain_state.History.{MayCommitUnchanged}
use Rattle.file_commands.specs.domain_state.Opening.{IsStartOf}
use Rattle.file_commands.specs.name_commands.Coming.{ComesNext}
use Rattle.file_commands.specs.name_commands.Ending.{EndsAs, LacksPage}
use Rattle.file_commands.specs.domain_state.Short.{MayLackPages}
use Rattle.client_commands.specs.Wanting.{MayTake}
use Rattle.file_commands.specs.name_commands.declared.stop.Stop.{Stop}
use Rattle.file_commands.specs.name_commands.declared.stop.Stop.TheVariants.{NoPage}
use Rattle.client_commands.proofs.Coming.{follows, looks_itself}

-- ---- the commands that may be answered no-space

-- one of them is one of these
pub data Taking : Command → Type 0 where
  mkfset : (fileset : Name) → Taking (command.Mkfset fileset)
  setquota : (fileset : Name) (who : Owner) (files blocks : ℕ) → Taking (command.Setquota fileset who files blocks)
  create : (place : Place) (uid gid : ℕ) → Taking (command.Create place uid gid)
  mkdir : (place : Place) (uid gid : ℕ) → Taking (command.Mkdir place uid gid)
  write : (place : Place) (offset : ℕ) (bytes : List ℕ) → Taking (command.Write place offset bytes)
  rename : (place : Place) (to : Path) → Taking (command.Rename place to)
  link : (place : Place) (to : Path) → Taking (command.Link place to)

pub taking : (c : Command) → MayTake c → Taking c
taking (command.Mkfset fileset) may = Taking.mkfset fileset
taking (command.Rmfset fileset) may = absurd may
taking (command.Setquota fileset who files blocks) may = Taking.setquota fileset who files blocks
taking (command.Clonefset fileset new_name) may = absurd may
taking command.Showfsets may = absurd may
taking (command.Showquota fileset who) may = absurd may
taking (command.Create place uid gid) may = Taking.create place uid gid
taking (command.Mkdir place uid gid) may = Taking.mkdir place uid gid
taking (command.Write place offset bytes) may = Taking.write place offset bytes
taking (command.Read place offset count) may = absurd may
taking (command.Truncate place size) may = absurd may
taking (command.Rename place to) may = Taking.rename place to
taking (command.Link place to) may = Taking.link place to
taking (command.Links place) may = absurd may
taking (command.Unlink place) may = absurd may
taking (command.Rmdir place) may = absurd may
taking (command.List place) may = absurd may
taking (command.Stat place) may = absurd may
taking (command.Fsync place) may = absurd may
taking (command.Chfile place logged) may = absurd may
taking (command.Stripe width place) may = absurd may
taking command.Sync may = absurd may
taking command.Cancel may = absurd may
taking command.Showfdmn may = absurd may
taking (command.Showfile place) may = absurd may
taking (command.Migrate place first count from to) may = absurd may
taking command.Balance may = absurd may
taking (command.Addvol vol) may = absurd may
taking (command.Rmvol vol) may = absurd may
taking (command.ChvolA vol) may = absurd may
taking (command.Switchlog vol) may = absurd may
taking command.Upgrade may = absurd may
taking (command.Defragment place) may = absurd may

-- volumes refuse none of them
pub no_volume : (s : State) (c : Command) → Taking c → volume_refusal s c ≡ None
no_volume s c (Taking.mkfset fileset) = refl
no_volume s c (Taking.setquota fileset who files blocks) = refl
no_volume s c (Taking.create place uid gid) = refl
no_volume s c (Taking.mkdir place uid gid) = refl
no_volume s c (Taking.write place offset bytes) = refl
no_volume s c (Taking.rename place to) = refl
no_volume s c (Taking.link place to) = refl

-- none of them is the mover's
pub no_movers : (c : Command) → Taking c → is_movers c ≡ false
no_movers c (Taking.mkfset fileset) = refl
no_movers c (Taking.setquota fileset who files blocks) = refl
no_movers c (Taking.create place uid gid) = refl
no_movers c (Taking.mkdir place uid gid) = refl
no_movers c (Taking.write place offset bytes) = refl
no_movers c (Taking.rename place to) = refl
no_movers c (Taking.link place to) = refl

-- one that found no page takes space
pub takes_space : (memory : DomainMemory) (c : Command) → Taking c → LacksPage c memory → (all : FilesetMap) → StandsFor memory all → TakesSpace all c
takes_space memory c (Taking.mkfset fileset) lacks all stands = tt
takes_space memory c (Taking.setquota fileset who files blocks) lacks all stands = tt
takes_space memory c (Taking.create place uid gid) lacks all stands = tt
takes_space memory c (Taking.mkdir place uid gid) lacks all stands = tt
takes_space memory c (Taking.write place offset bytes) lacks all stands = lacks all stands
takes_space memory c (Taking.rename place to) lacks all stands = tt
takes_space memory c (Taking.link place to) lacks all stands = tt

-- ---- if a command found no page

module _ (staged : Result Reply Stop) (wants : staged ≡ Err NoPage) where
  pub wanted : (P : Type 0) → IfErr staged (λ stop. stop ≡ NoPage → P) → P
  wanted P cause = subst (λ (s : Result Reply Stop). IfErr s (λ stop. stop ≡ NoPage → P)) wants cause refl

  pub allowed : (memory : DomainMemory) (all : FilesetMap) (c : Command) → EndsAs memory all c staged → refusal_of all c ≡ None
  allowed memory all c ends = subst (λ (s : Result Reply Stop). EndsAs memory all c s) wants ends

-- ---- no page waits

none_there : (xs : List Waiting) → length xs ≡ 0 → xs ≡ []
none_there [] is = refl
none_there (x ∷ xs) is = absurd (omega (arith, is))

none_on : (o : Option VolumeSpace) → waiting_pages o ≡ 0 → IfSome o (λ v. v.waiting ≡ [])
none_on None is = tt
none_on (Some v) is = none_there v.waiting is

none_among : (xs : List (Option VolumeSpace)) (k : ℕ) → sum_by waiting_pages xs ≡ 0 → IfSome (get_or xs k None) (λ v. v.waiting ≡ [])
none_among [] k is = tt
none_among (x ∷ xs) zero is = let all = sum_by-cons waiting_pages x xs in none_on x (omega (arith, all, is))
none_among (x ∷ xs) (suc k) is = let all = sum_by-cons waiting_pages x xs in none_among xs k (omega (arith, all, is))

pub none_waits : (space : Spaces) → sum_by waiting_pages space.volumes ≡ 0 → NoneWaits space
none_waits space is vol = none_among space.volumes (vol - 1) is

-- ---- the step

refuses_none : (a b : Option Refusal) → a ≡ None → b ≡ None → first_refusal (a ∷ b ∷ []) ≡ None
refuses_none a b none nothing = λ i. first_refusal (none i ∷ nothing i ∷ [])

module _ (pages : Pages) (frame : Frame) (sizes : List ℕ) (entries : List Entry) (job : Option Command) (e : Entry) (all : FilesetMap) (next : ComesNext entries e) (free : ℕ) (told : e.reply ≡ Refused (NoSpace free (need e.command)))
    (few : free < need e.command) (takes : TakesSpace all e.command) (allows : refusal_of all e.command ≡ None) (kind : Taking e.command) (lacks : MayLackPages pages frame sizes entries job all (need e.command)) where
  leads_back : (start : State) → IsStartOf pages frame sizes start → (point : Point) → ComesTo start entries job point → point.state ≡ record start { filesets = all } → LeadsOn point e (record start { filesets = all })
  leads_back start is point comes same =
      let now : State = record start { filesets = all } in
      let refused_none : refusal_in point.state e.command ≡ None =
      refuses_none (refusal_of point.state.filesets e.command) (volume_refusal point.state e.command) (ap (λ (s : State). refusal_of s.filesets e.command) same ∙ allows) (no_volume point.state e.command kind) in
      let stays : Step point e now =
      no_space free told few (subst (λ (s : State). TakesSpace s.filesets e.command) (sym same) takes) refused_none (subst (λ (s : State). Tight point s (need e.command)) same (lacks start is point comes same)) (sym same) in
      record { end = now; follows = follows start entries job e all all next is.striped point comes same; step = stays; looks = looks_itself now }

  pub goes_unchanged : MayCommitUnchanged pages frame sizes entries job e all
  goes_unchanged start is point comes same = leads_back start is point comes same

-- ---- pages that bytes lie in

pub none_counted : (offset bytes : ℕ) → bytes ≡ 0 → 0 ≡ length (pages_of offset bytes)
none_counted offset bytes none = ap (λ n. length (pages_of offset n)) (sym none)

pub some_counted : (offset bytes last : ℕ) → ¬ bytes ≡ 0 → last ≡ offset + (bytes - 1) → last / 8192 - offset / 8192 + 1 ≡ length (pages_of offset bytes)
some_counted offset bytes last some is =
    let end : offset + bytes - 1 ≡ last = omega (arith, some, is) in
    let order : offset / 8192 ≤ last / 8192 = le-div (offset / 8192) last 8192 (omega arith) (omega (arith, div-mul-le_self offset 8192, is)) in
    let count : last / 8192 - offset / 8192 + 1 ≡ suc (last / 8192) - offset / 8192 = omega (arith, order) in
    count ∙ ap (λ n. suc (n / 8192) - offset / 8192) (sym end)
    ∙ by_test (bytes == 0) refl (suc ((offset + bytes - 1) / 8192) - offset / 8192)
  where
    by_test : (b : Bool) → bytes == 0 ≡ b → (n : ℕ) → n ≡ length (if b then [] else range_with_len (offset / 8192) n)
    by_test true is n = absurd (some (eqb-true bytes 0 is))
    by_test false is n = sym (length-range_with_len (offset / 8192) n)
