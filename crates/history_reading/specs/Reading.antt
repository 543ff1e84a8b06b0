-- What lines say, however they are spelled: a line is then compared with that of the entry that it
-- says.
use Rattle.std.specs.Prelude.{ℕ, ◌-◌, ◌^◌, Bool, ◌==◌, if◌then◌else◌, Option, Some, None, option_map, find, List, [], ◌∷◌, length, take, codes}
use Rattle.std.specs.List.{after_first, before_first, list_any, slice_split}
use Rattle.std.specs.Str.{bytes_eq}
use Rattle.script_text.specs.fileset_values.declared.command.Actor.{Actor}
use Rattle.script_text.specs.fileset_values.declared.command.Actor.TheVariants.{Client, Mover}
use Rattle.script_text.specs.fileset_values.declared.command.Command.{Command}
use Rattle.script_text.specs.fileset_values.declared.entry.Entry.{Entry}
use Rattle.script_text.specs.fileset_values.declared.reply.ExtentItem.{ExtentItem}
use Rattle.script_text.specs.fileset_values.declared.reply.FilesetItem.{FilesetItem}
use Rattle.script_text.specs.fileset_values.declared.reply.NameItem.{NameItem}
use Rattle.script_text.specs.fileset_values.declared.reply.Refusal.{Refusal}
use Rattle.script_text.specs.fileset_values.declared.reply.Refusal.TheVariants as refusal
use Rattle.script_text.specs.fileset_values.declared.reply.Reply.{Reply}
use Rattle.script_text.specs.fileset_values.declared.reply.Reply.TheVariants as reply
use Rattle.script_text.specs.fileset_values.declared.reply.VolumeItem.{VolumeItem}
use Rattle.history_reading.specs.declared.kind.AnswerKind.{AnswerKind}
use Rattle.history_reading.specs.declared.kind.AnswerKind.TheVariants as kind
use Rattle.history_reading.specs.Entries.{answer_kind}
use Rattle.script_text.specs.History.{refusal_number}
use Rattle.script_text.specs.command_text.Commands.{Words, command_of, no_word, one_word, verb_of}
use Rattle.script_text.specs.word_forms.Forms.{◌>>=◌, bytes_of, each, fileset_of, name_of, number_below, number_within}

-- ** Rows of listings

-- a name, before a `/` if it is a directory's
unfoldable pub name_item_of : List ℕ → Option NameItem
name_item_of word = do
  name ← name_of (before_first (λ b. b == 47) word)
  Some (record { name = name; directory = list_any (λ b. b == 47) word })

-- the original of a clone, after a `<`
unfoldable pub original_of : List ℕ → Option (Option (List ℕ))
original_of word =
    if list_any (λ b. b == 60) word
    then option_map Some (fileset_of (after_first (λ b. b == 60) word)) else Some None

unfoldable pub fileset_item_of : List ℕ → Option FilesetItem
fileset_item_of word = do
  fileset ← fileset_of (before_first (λ b. b == 60) word)
  original ← original_of word
  Some (record { fileset = fileset; original = original })

-- a volume's number and its pages, the used and the free ones, and a flag, which has an `L` if it
-- has the log, and a `C` if it is closed
unfoldable pub volume_of : Words → Option VolumeItem
volume_of (v ∷ p ∷ u ∷ f ∷ flag ∷ []) = do
  vol ← number_below (2 ^ 32) v
  pages ← number_below (2 ^ 32) p
  used ← number_below (2 ^ 32) u
  free ← number_below (2 ^ 32) f
  Some (record {
    vol = vol;
    pages = pages;
    used = used;
    free = free;
    has_log = list_any (λ b. b == 76) flag;
    closed = list_any (λ b. b == 67) flag;
  })
volume_of _ = None

abbrev pub volume_item_of : List ℕ → Option VolumeItem
volume_item_of word = volume_of (slice_split (λ b. b == 58) word)

-- a page, how many there are after a `+`, the volume after an `@`, and its page after a `:`
unfoldable pub extent_item_of : List ℕ → Option ExtentItem
extent_item_of word =
    let behind_page = after_first (λ b. b == 43) word in
    let behind_count = after_first (λ b. b == 64) behind_page in
    extent_of
    (before_first (λ b. b == 43) word)
    (before_first (λ b. b == 64) behind_page)
    (before_first (λ b. b == 58) behind_count)
    (after_first (λ b. b == 58) behind_count)
  where
    extent_of : List ℕ → List ℕ → List ℕ → List ℕ → Option ExtentItem
    extent_of p n v f = do
      page ← number_below (2 ^ 32) p
      count ← number_below (2 ^ 32) n
      vol ← number_below (2 ^ 32) v
      first ← number_below (2 ^ 32) f
      Some (record { page = page; count = count; vol = vol; first = first })

-- ** Answers

-- bytes, or `-` for none
unfoldable pub read_of : List ℕ → Option (List ℕ)
read_of word = if bytes_eq word (codes "-") then Some [] else bytes_of word

unfoldable pub stat_of : Words → Option Reply
stat_of (name ∷ u ∷ g ∷ s ∷ p ∷ l ∷ []) = do
  uid ← number_below (2 ^ 32) u
  gid ← number_below (2 ^ 32) g
  size ← number_below (2 ^ 64) s
  pages ← number_below (2 ^ 32) p
  Some (reply.FileStat uid gid size pages (bytes_eq l (codes "log")))
stat_of (name ∷ u ∷ g ∷ r ∷ []) = do
  uid ← number_below (2 ^ 32) u
  gid ← number_below (2 ^ 32) g
  rows ← number_below (2 ^ 32) r
  Some (reply.DirStat uid gid rows)
stat_of _ = None

unfoldable pub quota_of : Words → Option Reply
quota_of (name ∷ n ∷ n_limit ∷ other ∷ b ∷ b_limit ∷ []) = do
  files ← number_below (2 ^ 64) n
  files_limit ← number_below (2 ^ 64) n_limit
  blocks ← number_below (2 ^ 64) b
  blocks_limit ← number_below (2 ^ 64) b_limit
  Some (reply.Quota files files_limit blocks blocks_limit)
quota_of _ = None

-- the answer of this kind that the words after `ok` say
abbrev pub answer_of : AnswerKind → Words → Option Reply
answer_of kind.Done words = no_word reply.Done words
answer_of kind.Count words = option_map reply.Count (one_word (number_below (2 ^ 64)) words)
answer_of kind.Read words = option_map reply.Read (one_word read_of words)
answer_of kind.Names words = option_map reply.Names (each name_item_of words)
answer_of kind.Stat words = stat_of words
answer_of kind.Filesets words = option_map reply.Filesets (each fileset_item_of words)
answer_of kind.Quota words = quota_of words
answer_of kind.Volumes words = option_map reply.Volumes (each volume_item_of words)
answer_of kind.Extents words = option_map reply.Extents (each extent_item_of words)

-- ** Refusals

-- one of each, its numbers zero
abbrev pub refusals : List Refusal
refusals =
    refusal.NoFileset ∷ refusal.FilesetExists ∷ refusal.NoPath ∷ refusal.Exists
    ∷ refusal.NotDirectory ∷ refusal.IsDirectory ∷ refusal.NotEmpty ∷ refusal.ReadOnly
    ∷ refusal.HasClone ∷ refusal.OutOfSync ∷ refusal.QuotaFiles 0 0 ∷ refusal.QuotaBlocks 0 0 0
    ∷ refusal.IntoItself ∷ refusal.TooFar
    ∷ refusal.FilesetsFull ∷ refusal.CloneOfClone ∷ refusal.NoSpace 0 0 ∷ refusal.NoVolume
    ∷ refusal.NoRoom 0 0 ∷ refusal.LastVolume ∷ refusal.VolumeTaken ∷ refusal.VolumeSmall
    ∷ refusal.ReadFault 0 ∷ refusal.Panicked 0 ∷ refusal.Cancelled ∷ refusal.Unsettled 0
    ∷ refusal.OutOfMemory ∷ refusal.LinksFull ∷ refusal.Striped ∷ []

-- the refusal with this number
unfoldable pub refusal_at : ℕ → Option Refusal
refusal_at number = find (λ r. refusal_number r == number) refusals

-- the number below the limit that a field has after its `=`
unfoldable pub field_of : ℕ → List ℕ → Option ℕ
field_of limit word = number_below limit (after_first (λ b. b == 61) word)

-- refusals by the numbers of their fields
unfoldable pub quota_files : Words → Option Refusal
quota_files (l ∷ u ∷ []) = do
  limit ← field_of (2 ^ 64) l
  used ← field_of (2 ^ 64) u
  Some (refusal.QuotaFiles limit used)
quota_files _ = None

unfoldable pub quota_blocks : Words → Option Refusal
quota_blocks (l ∷ u ∷ n ∷ []) = do
  limit ← field_of (2 ^ 64) l
  used ← field_of (2 ^ 64) u
  asked ← field_of (2 ^ 64) n
  Some (refusal.QuotaBlocks limit used asked)
quota_blocks _ = None

unfoldable pub no_space : Words → Option Refusal
no_space (f ∷ n ∷ []) = do
  free ← field_of (2 ^ 64) f
  need ← field_of (2 ^ 64) n
  Some (refusal.NoSpace free need)
no_space _ = None

unfoldable pub no_room : Words → Option Refusal
no_room (v ∷ f ∷ []) = do
  vol ← field_of (2 ^ 32) v
  free ← field_of (2 ^ 64) f
  Some (refusal.NoRoom vol free)
no_room _ = None

-- a refusal with the numbers of its fields
abbrev pub filled : Refusal → Words → Option Refusal
filled (refusal.QuotaFiles a b) fields = quota_files fields
filled (refusal.QuotaBlocks a b c) fields = quota_blocks fields
filled (refusal.NoSpace a b) fields = no_space fields
filled (refusal.NoRoom a b) fields = no_room fields
filled (refusal.ReadFault a) fields =
    option_map refusal.ReadFault (one_word (field_of (2 ^ 32)) fields)
filled (refusal.Panicked a) fields =
    option_map refusal.Panicked (one_word (field_of (2 ^ 32)) fields)
filled (refusal.Unsettled a) fields =
    option_map refusal.Unsettled (one_word (field_of (2 ^ 64)) fields)
filled r fields = no_word r fields

-- the refusal that these words say: `E` and its number, its name, and its fields
unfoldable pub refusal_of : List ℕ → Words → Option Refusal
refusal_of (mark ∷ digits) (name ∷ fields) = do
  number ← number_below (2 ^ 64) digits
  without ← refusal_at number
  filled without fields
refusal_of first words = None

-- ** Lines

-- the reply that these words say, of a command with an answer of this kind
unfoldable pub reply_of : AnswerKind → Words → Option Reply
reply_of kind [] = None
reply_of kind (first ∷ words) =
    if bytes_eq first (codes "ok") then answer_of kind words
    else option_map reply.Refused (refusal_of first words)

-- a client by its number after a byte, or the mover by an `m`
unfoldable pub actor_of : List ℕ → Option Actor
actor_of [] = None
actor_of (mark ∷ digits) =
    if mark == 109 then Some Mover else option_map Client (number_within 1 8 digits)

unfoldable pub said_command : List ℕ → Words → Option Command
said_command first behind = do
  verb ← verb_of first
  command_of verb behind

-- the entry that the words before `->` and those after it say
unfoldable pub said_entry : Words → Words → Option Entry
said_entry (who ∷ first ∷ behind) words = do
  actor ← actor_of who
  command ← said_command first behind
  reply ← reply_of (answer_kind command) words
  Some (record { actor = actor; command = command; reply = reply; stamp = 0 })
said_entry _ words = None

abbrev pub is_arrow : List ℕ → Bool
is_arrow word = bytes_eq word (codes "->")

-- the entry that a line says, whatever its last byte is
unfoldable pub entry_of : List ℕ → Option Entry
entry_of line =
    let words = slice_split (λ b. b == 32) (take (length line - 1) line) in
    said_entry (before_first is_arrow words) (after_first is_arrow words)
