-- Whether a file is as it was when a run read it (our choice: by the numbers of its device and of itself, its size and the time of its bytes).
use Rattle.std.specs.Prelude.{◌≡◌, ◌⊎◌, ⊤, Bool, true, Option, Some, None}
use Rattle.ed_session.specs.declared.file_stamp.FileStamp.{FileStamp}
use Rattle.ed_session.specs.declared.file_stamp.Time.{Time}
use Rattle.ed_session.specs.declared.file_stamp.Time.TheVariants as time

-- both are of one file
pub record IsOneFile (one other : FileStamp) : Type 0 where
  pub device : one.device ≡ other.device
  pub number : one.number ≡ other.number

-- The time of a file's bytes is the one that was told; or the run itself has changed them and hasn't asked when. One that another process was about
-- to change isn't the same.
abbrev pub IsSameTime : Time → Time → Type 0
IsSameTime (time.Told seconds nanoseconds) now = time.Told seconds nanoseconds ≡ now
IsSameTime time.Own now = ⊤
IsSameTime time.Now now = ⊥

-- a file that was so and is so now wasn't changed between, as far as these tell
pub record IsStill (was now : FileStamp) : Type 0 where
  pub same_file : IsOneFile was now
  pub same_size : was.size ≡ now.size
  pub same_time : IsSameTime was.time now.time

-- What was found at a path when it was read, a file or nothing, lets a run write the file that is there now, which its opening has made or
-- not: the path wasn't read; or nothing was there, and the file has no bytes to lose; or the file is as it was, or was made by the opening
-- and has no bytes.
abbrev pub LetsWrite : Option (Option FileStamp) → (now : FileStamp) (is_new : Bool) → Type 0
LetsWrite None now is_new = ⊤
LetsWrite (Some None) now is_new = now.size ≡ 0
LetsWrite (Some (Some was)) now is_new = ((is_new ≡ true) × (now.size ≡ 0)) ⊎ IsStill was now

-- What stands at a path now, a file or nothing, is what was found there when it was read, or it wasn't read.
abbrev pub IsAsRead : Option (Option FileStamp) → Option FileStamp → Type 0
IsAsRead None now = ⊤
IsAsRead (Some None) None = ⊤
IsAsRead (Some None) (Some now) = ⊥
IsAsRead (Some (Some was)) None = ⊥
IsAsRead (Some (Some was)) (Some now) = IsStill was now

-- the time of a file's bytes is one that the system has told
abbrev pub IsTold : Time → Type 0
IsTold (time.Told seconds nanoseconds) = ⊤
IsTold time.Own = ⊥
IsTold time.Now = ⊥

-- the time of a file's bytes is told, or is perhaps this moment
abbrev pub IsToldOrNow : Time → Type 0
IsToldOrNow (time.Told seconds nanoseconds) = ⊤
IsToldOrNow time.Own = ⊥
IsToldOrNow time.Now = ⊤
