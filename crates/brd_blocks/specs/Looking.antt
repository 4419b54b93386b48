-- A look at the next instruction of a processor, before it is done.
use Rattle.std.specs.Prelude.{ℕ, ◌+◌, ◌==◌, Bool, true, false, not, ◌&&◌, ◌||◌, if◌then◌else◌, List, Option, None, Some}
use Rattle.brd_isa.specs.Shapes.{does_store, is_linked}
use Rattle.brd_link.specs.LinkSet.{is_same_block}
use Rattle.brd_exec.specs.State.{State, read}
use Rattle.brd_tasks.specs.declared.status.TaskState.{TaskState}
use Rattle.brd_tasks.specs.declared.status.TaskState.TheVariants as state
use Rattle.brd_tasks.specs.declared.task.TaskView.{TaskView}
use Rattle.brd_kernel.specs.declared.processor.Standing.{Standing}
use Rattle.brd_kernel.specs.declared.processor.Standing.TheVariants as standing
use Rattle.brd_board.specs.declared.event.Report.{Report}
use Rattle.brd_board.specs.declared.event.Report.TheVariants as report
use Rattle.brd_board.specs.Board.{BoardState, registers_of, standing_of, linked_word_of, task_of}
use Rattle.brd_blocks.specs.declared.owner.Owner.{Owner}
use Rattle.brd_blocks.specs.declared.owner.Owner.TheVariants as owner
use Rattle.brd_blocks.specs.declared.footprint.Access.{Access}
use Rattle.brd_blocks.specs.declared.look.Look.{Look}
use Rattle.brd_blocks.specs.declared.stepped.Stepped.{Stepped}
use Rattle.brd_blocks.specs.declared.stepped.Stepped.TheVariants as stepped
use Rattle.brd_blocks.specs.Owning.{Known, is_shared, may_store, may_touch, owner_at, is_mortal}
use Rattle.brd_blocks.specs.Footprint.{access_of}

-- The words of two addresses.

abbrev pub may_touch_both : List Owner → Owner → ℕ → ℕ → Bool
may_touch_both owners me first last = may_touch me (owner_at owners first) && may_touch me (owner_at owners last)

abbrev pub may_store_both : List Owner → Owner → ℕ → ℕ → Bool
may_store_both owners me first last = may_store me (owner_at owners first) && may_store me (owner_at owners last)

abbrev pub are_private : List Owner → ℕ → ℕ → Bool
are_private owners first last = not (is_shared (owner_at owners first)) && not (is_shared (owner_at owners last))

-- Links.

abbrev pub is_into : Bool → Option ℕ → ℕ → Bool
is_into another None address = false
is_into another (Some word) address = another && is_same_block word address

-- another processor is linked to a word of the block of an address: this one, and any
abbrev pub link_is_into : BoardState → ℕ → ℕ → ℕ → Bool
link_is_into b cpu other address = is_into (not (other == cpu)) (linked_word_of b other) address

abbrev pub links_into : BoardState → ℕ → ℕ → Bool
links_into b cpu address =
    link_is_into b cpu 1 address || link_is_into b cpu 2 address || link_is_into b cpu 3 address
    || link_is_into b cpu 4 address
    || link_is_into b cpu 5 address
    || link_is_into b cpu 6 address
    || link_is_into b cpu 7 address
    || link_is_into b cpu 8 address

-- A load or a store: whether it keeps to who may touch what; whether nobody else can see it; whether it ends no link.

abbrev pub access_keeps : List Owner → Owner → Option Access → Bool
access_keeps owners me None = true
access_keeps owners me (Some it) =
    if does_store it.transfer then may_store_both owners me it.first it.last
    else may_touch_both owners me it.first it.last

abbrev pub access_hides : List Owner → Option Access → Bool
access_hides owners None = true
access_hides owners (Some it) = not (is_linked it.transfer) && are_private owners it.first it.last

abbrev pub access_spares : BoardState → ℕ → Option Access → Bool
access_spares b cpu None = true
access_spares b cpu (Some it) = not (does_store it.transfer) || not (links_into b cpu it.address)

-- who executes, by what the processor is doing

abbrev pub me_standing : ℕ → Standing → Option Owner
me_standing cpu (standing.Task id) = Some (owner.Task id)
me_standing cpu (standing.Handler line) = Some (owner.Handler cpu)
me_standing cpu standing.Idle = None
me_standing cpu standing.Stopped = None

abbrev pub me_on : ℕ → Option Standing → Option Owner
me_on cpu None = None
me_on cpu (Some doing) = me_standing cpu doing

-- a context that isn't the one that is read where there is none
abbrev pub has_place : State → Bool
has_place s = not (s.pc == 0) || not (read s 29 == 0)

-- the number of ter_tsk, and the task that it is asked of
abbrev pub asks_ter_tsk : State → Bool
asks_ter_tsk s = read s 2 == 4

abbrev pub asks_of : State → ℕ
asks_of s = read s 4

-- it is asked of one of which isn't known that others may terminate it
abbrev pub surprises : List Bool → State → Bool
surprises mortals s = asks_ter_tsk s && not (is_mortal mortals (asks_of s))

-- who executes is a task that others may terminate
abbrev pub is_mortal_owner : List Bool → Owner → Bool
is_mortal_owner mortals owner.Nobody = false
is_mortal_owner mortals (owner.Task id) = is_mortal mortals id
is_mortal_owner mortals (owner.Handler cpu) = false
is_mortal_owner mortals owner.Shared = false

abbrev pub keeps_by : List Owner → Owner → ℕ → Option Access → Bool
keeps_by owners me pc access = may_touch_both owners me pc (pc + 3) && access_keeps owners me access

abbrev pub hides_by : List Owner → ℕ → Option Access → Bool
hides_by owners pc access = are_private owners pc (pc + 3) && access_hides owners access

abbrev pub look_by : Known → BoardState → ℕ → Owner → State → Look
look_by known b cpu me s = record {
  keeps = keeps_by known.owners me s.pc (access_of s b.memory);
  hidden = not (is_mortal_owner known.mortals me) && hides_by known.owners s.pc (access_of s b.memory);
  unlinked = access_spares b cpu (access_of s b.memory);
  surprises = surprises known.mortals s;
}

abbrev pub look_in : Known → BoardState → ℕ → Option Owner → Option State → Option Look
look_in known b cpu None context = None
look_in known b cpu (Some me) None = None
look_in known b cpu (Some me) (Some s) = if has_place s then Some (look_by known b cpu me s) else None

abbrev pub look_of : Known → BoardState → ℕ → Option Look
look_of known b cpu = look_in known b cpu (me_on cpu (standing_of b cpu)) (registers_of b cpu)

-- What a step was that was looked at so before it.

abbrev pub ran_of : Bool → Stepped
ran_of unlinked = if unlinked then stepped.Invisible else stepped.Strays

abbrev pub done_by : Look → Bool → Bool → Stepped
done_by look calls goes_on =
    if not look.keeps || (calls && look.surprises) then stepped.Strays
    else if goes_on && look.hidden then ran_of look.unlinked
    else stepped.Visible

abbrev pub done_of : Option Look → Bool → Bool → Stepped
done_of None calls goes_on = stepped.Strays
done_of (Some look) calls goes_on = done_by look calls goes_on

-- by what it reported
abbrev pub stepped_of : Option Look → Report → Stepped
stepped_of look report.Off = stepped.Off
stepped_of look report.NoSuch = stepped.Nothing
stepped_of look report.Stopped = stepped.Nothing
stepped_of look (report.Accepted line) = stepped.Accepted
stepped_of look (report.Ran address) = done_of look false true
stepped_of look (report.Called address) = done_of look true false
stepped_of look (report.Faulted address) = done_of look false false
stepped_of look report.Idle = stepped.Nothing
stepped_of look report.Ticked = stepped.Strays
stepped_of look report.TimeOver = stepped.Strays
stepped_of look report.Raised = stepped.Strays

-- Whether who executes stands well.

abbrev pub is_ready_state : TaskState → Bool
is_ready_state state.Dormant = false
is_ready_state state.Ready = true
is_ready_state state.Waiting = false
is_ready_state state.Suspended = false
is_ready_state state.WaitingSuspended = false

abbrev pub is_ready_in : Option TaskView → Bool
is_ready_in None = false
is_ready_in (Some view) = is_ready_state view.state

abbrev pub stands_in : BoardState → Standing → State → Bool
stands_in b (standing.Task id) s = has_place s && is_ready_in (task_of b id)
stands_in b (standing.Handler line) s = has_place s
stands_in b standing.Idle s = has_place s
stands_in b standing.Stopped s = has_place s

abbrev pub stands_by : BoardState → Option Standing → Option State → Bool
stands_by b None context = true
stands_by b (Some doing) None = true
stands_by b (Some doing) (Some s) = stands_in b doing s

abbrev pub stands_on : BoardState → ℕ → Bool
stands_on b cpu = stands_by b (standing_of b cpu) (registers_of b cpu)
