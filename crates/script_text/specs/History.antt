-- The text of a history: a line for each command with its reply.
use Rattle.std.specs.Prelude.{ℕ, Bool, if◌then◌else◌, Option, Some, None, List, [], ◌∷◌, ◌++◌, map, codes, decimal}
use Rattle.std.specs.List.{flat_map, join_with_byte}
use Rattle.command_text.specs.fileset_values.declared.entry.Entry.{Entry}
use Rattle.command_text.specs.fileset_values.declared.reply.ExtentItem.{ExtentItem}
use Rattle.command_text.specs.fileset_values.declared.reply.FilesetItem.{FilesetItem}
use Rattle.command_text.specs.fileset_values.declared.reply.NameItem.{NameItem}
use Rattle.command_text.specs.fileset_values.declared.reply.Refusal.{Refusal}
use Rattle.command_text.specs.fileset_values.declared.reply.Refusal.TheVariants as refusal
use Rattle.command_text.specs.fileset_values.declared.reply.Reply.{Reply}
use Rattle.command_text.specs.fileset_values.declared.reply.Reply.TheVariants as reply
use Rattle.command_text.specs.fileset_values.declared.reply.VolumeItem.{VolumeItem}
use Rattle.command_text.specs.word_forms.Runs.{bytes_text}
use Rattle.command_text.specs.Texts.{actor_text, command_text}
use Rattle.command_text.specs.word_forms.Texts.{behind_spaces, name_text}

-- ** Refusals

-- the number of a refusal
unfoldable pub refusal_number : Refusal → ℕ
refusal_number refusal.NoFileset = 1
refusal_number refusal.FilesetExists = 2
refusal_number refusal.NoPath = 3
refusal_number refusal.Exists = 4
refusal_number refusal.NotDirectory = 5
refusal_number refusal.IsDirectory = 6
refusal_number refusal.NotEmpty = 7
refusal_number refusal.ReadOnly = 8
refusal_number refusal.HasClone = 9
refusal_number refusal.OutOfSync = 10
refusal_number (refusal.QuotaFiles limit used) = 11
refusal_number (refusal.QuotaBlocks limit used asked) = 12
refusal_number refusal.IntoItself = 13
refusal_number refusal.TooFar = 14
refusal_number refusal.FilesetsFull = 15
refusal_number refusal.CloneOfClone = 16
refusal_number (refusal.NoSpace free need) = 20
refusal_number refusal.NoVolume = 21
refusal_number (refusal.NoRoom vol free) = 22
refusal_number refusal.LastVolume = 23
refusal_number refusal.VolumeTaken = 24
refusal_number refusal.VolumeSmall = 25
refusal_number (refusal.ReadFault vol) = 26
refusal_number (refusal.Panicked vol) = 27
refusal_number refusal.Cancelled = 28
refusal_number (refusal.Unsettled moved) = 29
refusal_number refusal.OutOfMemory = 30
refusal_number refusal.LinksFull = 31
refusal_number refusal.Striped = 32

unfoldable pub refusal_name : Refusal → List ℕ
refusal_name refusal.NoFileset = codes "no-fileset"
refusal_name refusal.FilesetExists = codes "fileset-exists"
refusal_name refusal.NoPath = codes "no-path"
refusal_name refusal.Exists = codes "exists"
refusal_name refusal.NotDirectory = codes "not-directory"
refusal_name refusal.IsDirectory = codes "is-directory"
refusal_name refusal.NotEmpty = codes "not-empty"
refusal_name refusal.ReadOnly = codes "read-only"
refusal_name refusal.HasClone = codes "has-clone"
refusal_name refusal.OutOfSync = codes "out-of-sync"
refusal_name (refusal.QuotaFiles limit used) = codes "quota-files"
refusal_name (refusal.QuotaBlocks limit used asked) = codes "quota-blocks"
refusal_name refusal.IntoItself = codes "into-itself"
refusal_name refusal.TooFar = codes "too-far"
refusal_name refusal.FilesetsFull = codes "filesets-full"
refusal_name refusal.CloneOfClone = codes "clone-of-clone"
refusal_name (refusal.NoSpace free need) = codes "no-space"
refusal_name refusal.NoVolume = codes "no-volume"
refusal_name (refusal.NoRoom vol free) = codes "no-room"
refusal_name refusal.LastVolume = codes "last-volume"
refusal_name refusal.VolumeTaken = codes "volume-taken"
refusal_name refusal.VolumeSmall = codes "volume-small"
refusal_name (refusal.ReadFault vol) = codes "read-fault"
refusal_name (refusal.Panicked vol) = codes "panicked"
refusal_name refusal.Cancelled = codes "cancelled"
refusal_name (refusal.Unsettled moved) = codes "unsettled"
refusal_name refusal.OutOfMemory = codes "out-of-memory"
refusal_name refusal.LinksFull = codes "links-full"
refusal_name refusal.Striped = codes "striped"

-- a number with its name
unfoldable pub field_text : List ℕ → ℕ → List ℕ
field_text name n = name ++ codes "=" ++ decimal n

-- the numbers that a refusal gives
unfoldable pub refusal_fields : Refusal → List (List ℕ)
refusal_fields (refusal.QuotaFiles limit used) =
    field_text (codes "limit") limit ∷ field_text (codes "used") used ∷ []
refusal_fields (refusal.QuotaBlocks limit used asked) =
    field_text (codes "limit") limit ∷ field_text (codes "used") used
    ∷ field_text (codes "asked") asked ∷ []
refusal_fields (refusal.NoSpace free need) =
    field_text (codes "free") free ∷ field_text (codes "need") need ∷ []
refusal_fields (refusal.NoRoom vol free) =
    field_text (codes "vol") vol ∷ field_text (codes "free") free ∷ []
refusal_fields (refusal.ReadFault vol) = field_text (codes "vol") vol ∷ []
refusal_fields (refusal.Panicked vol) = field_text (codes "vol") vol ∷ []
refusal_fields (refusal.Unsettled moved) = field_text (codes "moved") moved ∷ []
refusal_fields _ = []

-- `E` with the number of the refusal, its name, and its numbers by their names
unfoldable pub refusal_text : Refusal → List ℕ
refusal_text r =
    codes "E" ++ decimal (refusal_number r) ++ codes " " ++ refusal_name r
    ++ behind_spaces (refusal_fields r)

-- ** Replies

-- a name, with `/` after a directory's
abbrev pub name_item_text : NameItem → List ℕ
name_item_text item = name_text item.name ++ (if item.directory then codes "/" else [])

-- a fileset, with its original after `<` if it is a clone
abbrev pub original_text : Option (List ℕ) → List ℕ
original_text None = []
original_text (Some original) = codes "<" ++ original

abbrev pub fileset_item_text : FilesetItem → List ℕ
fileset_item_text item = item.fileset ++ original_text item.original

-- `L` for the volume of the log, `C` for a closed one, `-` for any other
abbrev pub flag_text : Bool → Bool → List ℕ
flag_text has_log closed =
    if has_log then (if closed then codes "LC" else codes "L")
    else (if closed then codes "C" else codes "-")

abbrev pub volume_item_text : VolumeItem → List ℕ
volume_item_text item =
    join_with_byte 58
    (decimal item.vol ∷ decimal item.pages ∷ decimal item.used ∷ decimal item.free
    ∷ flag_text item.has_log item.closed ∷ [])

abbrev pub extent_item_text : ExtentItem → List ℕ
extent_item_text item =
    decimal item.page ++ codes "+" ++ decimal item.count ++ codes "@" ++ decimal item.vol
    ++ codes ":" ++ decimal item.first

abbrev pub logged_text : Bool → List ℕ
logged_text logged = if logged then codes "log" else codes "-"

-- the words after `ok`
abbrev pub reply_words : Reply → List (List ℕ)
reply_words reply.Done = []
reply_words (reply.Count n) = decimal n ∷ []
reply_words (reply.Read bytes) = bytes_text bytes ∷ []
reply_words (reply.Names names) = map name_item_text names
reply_words (reply.FileStat uid gid size pages logged) =
    codes "file" ∷ decimal uid ∷ decimal gid ∷ decimal size ∷ decimal pages
    ∷ logged_text logged ∷ []
reply_words (reply.DirStat uid gid rows) =
    codes "dir" ∷ decimal uid ∷ decimal gid ∷ decimal rows ∷ []
reply_words (reply.Filesets filesets) = map fileset_item_text filesets
reply_words (reply.Quota files files_limit blocks blocks_limit) =
    codes "files" ∷ decimal files ∷ decimal files_limit
    ∷ codes "blocks" ∷ decimal blocks ∷ decimal blocks_limit ∷ []
reply_words (reply.Volumes volumes) = map volume_item_text volumes
reply_words (reply.Extents extents) = map extent_item_text extents
reply_words (reply.Refused r) = []

-- the text of a refusal, or `ok` and the words of the answer
unfoldable pub reply_text : Reply → List ℕ
reply_text (reply.Refused r) = refusal_text r
reply_text answer = codes "ok" ++ behind_spaces (reply_words answer)

-- ** Lines

-- the line of an entry; its stamp is not written
unfoldable pub line_of : Entry → List ℕ
line_of entry =
    actor_text entry.actor ++ codes " " ++ command_text entry.command ++ codes " -> "
    ++ reply_text entry.reply ++ codes "\n"

-- the lines one after another
abbrev pub history_text : List Entry → List ℕ
history_text entries = flat_map line_of entries
