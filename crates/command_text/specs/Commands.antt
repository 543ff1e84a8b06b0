-- The table of commands: the words by which each is given.
use Rattle.std.specs.Prelude.{ℕ, ◌^◌, Bool, true, false, ◌==◌, if◌then◌else◌, Option, Some, None, option_map, find, List, [], ◌∷◌, codes}
use Rattle.std.specs.List.{list_any}
use Rattle.std.specs.Str.{bytes_eq}
use Rattle.word_forms.specs.fileset_values.declared.command.Command.{Command}
use Rattle.word_forms.specs.fileset_values.declared.command.Command.TheVariants.{Mkfset, Rmfset, Clonefset, Showfsets, Setquota, Showquota, Create, Mkdir, Write, Read, Truncate, Rename, Link, Links, Unlink, Rmdir, List as ListAt, Stat, Fsync, Chfile, Stripe, Sync, Cancel, Showfdmn, Showfile, Migrate, Balance, Addvol, Rmvol, ChvolA, Switchlog, Upgrade, Defragment}
use Rattle.word_forms.specs.fileset_values.declared.command.Place.{Place}
use Rattle.command_text.specs.declared.verb.Verb.{Verb}
use Rattle.command_text.specs.declared.verb.Verb.TheVariants as verb
use Rattle.word_forms.specs.Forms.{◌>>=◌, passing, number_below, number_within, fileset_of, place_of, named_path_of, named_place_of, bytes_of, owner_of, switch_of}

-- ** First words

-- the first word of a command, how many words its line has, and whether scripts may have it today
pub record Row : Type 0 where
  pub text : List ℕ
  pub words : ℕ
  pub in_scripts : Bool

abbrev row : List ℕ → ℕ → Bool → Row
row text words in_scripts = record { text = text; words = words; in_scripts = in_scripts }

-- the table of commands: the first word, the most words, and whether a script may have it
abbrev pub row_of : Verb → Row
row_of verb.Mkfset = row (codes "mkfset") 2 true
row_of verb.Rmfset = row (codes "rmfset") 2 true
row_of verb.Clonefset = row (codes "clonefset") 3 false
row_of verb.Showfsets = row (codes "showfsets") 1 true
row_of verb.Setquota = row (codes "setquota") 6 true
row_of verb.Showquota = row (codes "showquota") 4 true
row_of verb.Create = row (codes "create") 4 true
row_of verb.Mkdir = row (codes "mkdir") 4 true
row_of verb.Write = row (codes "write") 4 true
row_of verb.Read = row (codes "read") 4 true
row_of verb.Truncate = row (codes "truncate") 3 true
row_of verb.Rename = row (codes "rename") 3 true
row_of verb.Link = row (codes "link") 3 true
row_of verb.Links = row (codes "links") 2 true
row_of verb.Unlink = row (codes "unlink") 2 true
row_of verb.Rmdir = row (codes "rmdir") 2 true
row_of verb.List = row (codes "list") 2 true
row_of verb.Stat = row (codes "stat") 2 true
row_of verb.Fsync = row (codes "fsync") 2 true
row_of verb.Chfile = row (codes "chfile") 4 true
row_of verb.Stripe = row (codes "stripe") 4 false
row_of verb.Sync = row (codes "sync") 1 true
row_of verb.Cancel = row (codes "cancel") 1 true
row_of verb.Showfdmn = row (codes "showfdmn") 1 true
row_of verb.Showfile = row (codes "showfile") 2 true
row_of verb.Migrate = row (codes "migrate") 10 false
row_of verb.Balance = row (codes "balance") 1 false
row_of verb.Addvol = row (codes "addvol") 2 false
row_of verb.Rmvol = row (codes "rmvol") 2 false
row_of verb.Chvol = row (codes "chvol") 3 false
row_of verb.Switchlog = row (codes "switchlog") 2 false
row_of verb.Upgrade = row (codes "upgrade") 1 false
row_of verb.Defragment = row (codes "defragment") 2 false

-- all of them
abbrev pub verbs : List Verb
verbs =
    verb.Mkfset ∷ verb.Rmfset ∷ verb.Clonefset ∷ verb.Showfsets ∷ verb.Setquota ∷ verb.Showquota
    ∷ verb.Create ∷ verb.Mkdir ∷ verb.Write ∷ verb.Read ∷ verb.Truncate ∷ verb.Rename
    ∷ verb.Link ∷ verb.Links ∷ verb.Unlink ∷ verb.Rmdir ∷ verb.List ∷ verb.Stat ∷ verb.Fsync
    ∷ verb.Chfile ∷ verb.Stripe ∷ verb.Sync ∷ verb.Cancel ∷ verb.Showfdmn ∷ verb.Showfile
    ∷ verb.Migrate ∷ verb.Balance ∷ verb.Addvol ∷ verb.Rmvol ∷ verb.Chvol ∷ verb.Switchlog
    ∷ verb.Upgrade ∷ verb.Defragment ∷ []

-- what a first word asks for, if it is known
unfoldable pub verb_of : List ℕ → Option Verb
verb_of word = find (λ v. bytes_eq (row_of v).text word) verbs

-- whether a line of this command may have `count` words: `migrate` may leave out options, which
-- have two words each
unfoldable pub takes : Verb → ℕ → Bool
takes verb.Migrate count = list_any (λ n. n == count) (4 ∷ 6 ∷ 8 ∷ 10 ∷ [])
takes verb count = count == (row_of verb).words

-- ** The words after the first

abbrev pub Words : Type 0
Words = List (List ℕ)

-- no word, and one word of this form
abbrev pub no_word : {A : Type 0} → A → Words → Option A
no_word x [] = Some x
no_word x _ = None

abbrev pub one_word : {A : Type 0} → (List ℕ → Option A) → Words → Option A
one_word form (word ∷ []) = form word
one_word form _ = None

-- a file or directory that is made, with its uid and gid
unfoldable pub made : (Place → ℕ → ℕ → Command) → Words → Option Command
made make (p ∷ u ∷ g ∷ []) = do
  place ← named_place_of p
  uid ← number_below (2 ^ 32) u
  gid ← number_below (2 ^ 32) g
  Some (make place uid gid)
made make _ = None

-- a place, and another path in its fileset
unfoldable pub two_paths : (Place → List (List ℕ) → Command) → Words → Option Command
two_paths make (p ∷ t ∷ []) = do
  place ← named_place_of p
  to ← named_path_of t
  Some (make place to)
two_paths make _ = None

unfoldable pub clonefset : Words → Option Command
clonefset (f ∷ n ∷ []) = do
  fileset ← fileset_of f
  new_name ← fileset_of n
  Some (Clonefset fileset new_name)
clonefset _ = None

unfoldable pub setquota : Words → Option Command
setquota (f ∷ kind ∷ id ∷ n ∷ b ∷ []) = do
  fileset ← fileset_of f
  who ← owner_of kind id
  files ← number_below (2 ^ 64) n
  blocks ← number_below (2 ^ 64) b
  Some (Setquota fileset who files blocks)
setquota _ = None

unfoldable pub showquota : Words → Option Command
showquota (f ∷ kind ∷ id ∷ []) = do
  fileset ← fileset_of f
  who ← owner_of kind id
  Some (Showquota fileset who)
showquota _ = None

unfoldable pub write : Words → Option Command
write (p ∷ o ∷ b ∷ []) = do
  place ← place_of p
  offset ← number_below (2 ^ 64) o
  bytes ← bytes_of b
  Some (Write place offset bytes)
write _ = None

-- a read asks for up to 8,192 bytes
unfoldable pub read : Words → Option Command
read (p ∷ o ∷ n ∷ []) = do
  place ← place_of p
  offset ← number_below (2 ^ 64) o
  count ← number_within 0 8_192 n
  Some (Read place offset count)
read _ = None

unfoldable pub truncate : Words → Option Command
truncate (p ∷ s ∷ []) = do
  place ← place_of p
  size ← number_below (2 ^ 64) s
  Some (Truncate place size)
truncate _ = None

unfoldable pub chfile : Words → Option Command
chfile (option ∷ switch ∷ p ∷ []) = do
  named ← passing (bytes_eq option (codes "-L")) option
  logged ← switch_of switch
  place ← place_of p
  Some (Chfile place logged)
chfile _ = None

-- a stripe has 2 to 8 volumes
unfoldable pub stripe : Words → Option Command
stripe (option ∷ n ∷ p ∷ []) = do
  named ← passing (bytes_eq option (codes "-n")) option
  width ← number_within 2 8 n
  place ← place_of p
  Some (Stripe width place)
stripe _ = None

unfoldable pub chvol : Words → Option Command
chvol (option ∷ v ∷ []) = do
  named ← passing (bytes_eq option (codes "-A")) option
  vol ← number_below (2 ^ 32) v
  Some (ChvolA vol)
chvol _ = None

-- an option with its number, if the words begin with it, and the words after it; without it, all
-- words
abbrev pub Optional : Type 0
Optional = Option ℕ × Words

unfoldable pub optional : List ℕ → Words → Option Optional
optional name (option ∷ value ∷ words) =
    if bytes_eq option name then option_map (λ n. (Some n, words)) (number_below (2 ^ 32) value)
    else Some (None, option ∷ value ∷ words)
optional name words = Some (None, words)

-- `migrate` moves pages of a file to a volume
unfoldable pub migrate_to : Option ℕ → Option ℕ → Option ℕ → Words → Option Command
migrate_to first count from (option ∷ v ∷ p ∷ []) = do
  named ← passing (bytes_eq option (codes "-d")) option
  to ← number_below (2 ^ 32) v
  place ← place_of p
  Some (Migrate place first count from to)
migrate_to first count from _ = None

unfoldable pub migrate : Words → Option Command
migrate words = do
  first ← optional (codes "-p") words
  count ← optional (codes "-n") first.1
  from ← optional (codes "-s") count.1
  migrate_to first.0 count.0 from.0 from.1

-- the command that the words after the first say
abbrev pub command_of : Verb → Words → Option Command
command_of verb.Mkfset words = option_map Mkfset (one_word fileset_of words)
command_of verb.Rmfset words = option_map Rmfset (one_word fileset_of words)
command_of verb.Clonefset words = clonefset words
command_of verb.Showfsets words = no_word Showfsets words
command_of verb.Setquota words = setquota words
command_of verb.Showquota words = showquota words
command_of verb.Create words = made Create words
command_of verb.Mkdir words = made Mkdir words
command_of verb.Write words = write words
command_of verb.Read words = read words
command_of verb.Truncate words = truncate words
command_of verb.Rename words = two_paths Rename words
command_of verb.Link words = two_paths Link words
command_of verb.Links words = option_map Links (one_word place_of words)
command_of verb.Unlink words = option_map Unlink (one_word named_place_of words)
command_of verb.Rmdir words = option_map Rmdir (one_word named_place_of words)
command_of verb.List words = option_map ListAt (one_word place_of words)
command_of verb.Stat words = option_map Stat (one_word place_of words)
command_of verb.Fsync words = option_map Fsync (one_word place_of words)
command_of verb.Chfile words = chfile words
command_of verb.Stripe words = stripe words
command_of verb.Sync words = no_word Sync words
command_of verb.Cancel words = no_word Cancel words
command_of verb.Showfdmn words = no_word Showfdmn words
command_of verb.Showfile words = option_map Showfile (one_word place_of words)
command_of verb.Migrate words = migrate words
command_of verb.Balance words = no_word Balance words
command_of verb.Addvol words = option_map Addvol (one_word (number_below (2 ^ 32)) words)
command_of verb.Rmvol words = option_map Rmvol (one_word (number_below (2 ^ 32)) words)
command_of verb.Chvol words = chvol words
command_of verb.Switchlog words = option_map Switchlog (one_word (number_below (2 ^ 32)) words)
command_of verb.Upgrade words = no_word Upgrade words
command_of verb.Defragment words = option_map Defragment (one_word place_of words)
