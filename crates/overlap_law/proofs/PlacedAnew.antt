-- Where more, or else, is known of the disks on which requests of the script began, and began with what is asked: a client's are as they
-- were.
use Rattle.std.proofs.Common.{◌≡◌, ℕ, true, false, Option, Some, None, refl}
use Rattle.guest_driver.specs.declared.disk.Disk.{Disk}
use Rattle.peer_proto.specs.declared.guest.VdiAsk.TheVariants as disk_commands
use Rattle.sheep_node.specs.declared.ask.Ask.{Ask}
use Rattle.sheep_node.specs.declared.ask.Ask.TheVariants as asks
use Rattle.sheep_node.specs.declared.course.Course.{Course}
use Rattle.sheep_node.specs.declared.course.Course.TheVariants.{Waiting, Driving, Commanding, Checking, DoingWork, AwaitingDecision}
use Rattle.sheep_node.specs.May.{is_disk_course}
use Rattle.overlap_law.specs.RequestsOfScript.{IsCourseOfAsk, is_of_client}
use Rattle.overlap_law.proofs.CoursesOfAsks.{IsPlacedAs, IsPlacedAt, IsBroughtAs, IsBroughtBy}

module _ (asked : ℕ → Option Ask) (Was Now : ℕ → Option ℕ → Type 0) (req : ℕ) (opened : Option Disk) where
  pub placed_anew : (course : Course) → (IsPlacedAs asked Was req opened course → IsPlacedAs asked Now req opened course)
      → IsPlacedAt asked Was req opened course → IsPlacedAt asked Now req opened course
  placed_anew (Waiting ask) anew is = anew is
  placed_anew (Driving driver) anew is = anew is
  placed_anew (Commanding op) anew is = anew is
  placed_anew (Checking check) anew is = anew is
  placed_anew (DoingWork work) anew none = none
  placed_anew (AwaitingDecision entry) anew is = anew is

  pub brought_anew : (ask : Ask) → (IsBroughtAs asked Was req opened ask → IsBroughtAs asked Now req opened ask)
      → IsBroughtBy asked Was req opened ask → IsBroughtBy asked Now req opened ask
  brought_anew (asks.Disk ask) anew is = anew is
  brought_anew (asks.Vdi ask) anew is = anew is
  brought_anew (asks.Object work) anew none = none
  brought_anew (asks.Entry entry) anew is = anew is

-- what is brought was asked, where something was
pub brought_asked : (asked : ℕ → Option Ask) (Began : ℕ → Option ℕ → Type 0) (req : ℕ) (opened : Option Disk) (ask : Ask)
    → IsBroughtBy asked Began req opened ask → (asked req ≡ None → ⊥) → asked req ≡ Some ask
brought_asked asked Began req opened (asks.Disk ask) is some = is.1
brought_asked asked Began req opened (asks.Vdi ask) is some = is.1
brought_asked asked Began req opened (asks.Object work) none some = absurd (some none)
brought_asked asked Began req opened (asks.Entry entry) is some = is.1

-- so it is no client's
pub brought_as : (asked : ℕ → Option Ask) (Began : ℕ → Option ℕ → Type 0) (req : ℕ) (opened : Option Disk) (ask what : Ask)
    → asked req ≡ Some what → IsBroughtBy asked Began req opened ask → IsBroughtAs asked Began req opened ask
brought_as asked Began req opened (asks.Disk ask) what is brought = brought
brought_as asked Began req opened (asks.Vdi ask) what is brought = brought
brought_as asked Began req opened (asks.Object work) what is none = absurd (cc (is, none))
brought_as asked Began req opened (asks.Entry entry) what is brought = brought

-- a read or write isn't a client's
pub disk_of_scripts : (course : Course) → is_disk_course course ≡ true → is_of_client course ≡ false
disk_of_scripts (Waiting ask) disk = refl
disk_of_scripts (Driving driver) disk = refl
disk_of_scripts (Commanding op) disk = refl
disk_of_scripts (Checking check) disk = refl
disk_of_scripts (DoingWork work) disk = absurd (cc (disk))
disk_of_scripts (AwaitingDecision entry) disk = absurd (cc (disk))

-- where a request is as what was asked allows, something was
pub course_asks : (asked : Option Ask) (opened : Option Disk) (began : Option ℕ) (course : Course) → IsCourseOfAsk asked opened began course
    → (ask : Ask) × (asked ≡ Some ask)
course_asks asked opened began (Waiting ask) is = (asks.Disk ask, is.0)
course_asks asked opened began (Driving driver) is = (asks.Disk is.ask, is.of)
course_asks asked opened began (Commanding op) is = (asks.Vdi is.ask, is.of)
course_asks asked opened began (Checking check) is = (asks.Vdi disk_commands.Check, is.of)
course_asks asked opened began (DoingWork work) is = absurd is
course_asks asked opened began (AwaitingDecision entry) is = absurd is
