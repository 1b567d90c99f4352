-- A walker may be sent to another thread if its constraint may.
use denote.Param.Send.{IsSend, sendable}
use denote.RattleType.{RattleType}
use Rattle.std.proofs.Crossing.{crosses}
use Rattle.flip_guard.specs.declared.judge.Judge.{Ghosts}
use Rattle.std.specs.Borrow.{u32, u64}
use Rattle.audit_model.specs.contracts.lists.PlainList as PlainList
use Rattle.dual_graph.specs.contracts.mark_list.MarkList as MarkList
use Rattle.dual_graph.specs.contracts.marks.Marks as Marks
use Rattle.contig.specs.contracts.corner.CornerLists as CornerLists
use Rattle.contig.specs.contracts.counts.FaceCounts as FaceCounts
use Rattle.contig.specs.contracts.fillers.Fillers as Fillers
use Rattle.contig.specs.contracts.long.LongFaces as LongFaces
use Rattle.contig.specs.contracts.table.FaceTable as FaceTable
use Rattle.flip_kernel.specs.contracts.board.Board as Board
use Rattle.flip_kernel.specs.contracts.state.State as State
use Rattle.scores.specs.contracts.room.Room as Room
use Rattle.walker.specs.contracts.walker.Walker as Walker

-- lists of 32-bit numbers may be sent
units_send : IsSend (PlainList.the_row u32)
units_send = search (crosses, sendable) depth 20

-- lists of 64-bit numbers may be sent
numbers_send : IsSend (PlainList.the_row u64)
numbers_send = search (crosses, sendable) depth 20

-- lists of marks may be sent
mark_list_send : IsSend MarkList.the_row
mark_list_send = search (crosses, sendable) depth 20

-- marks may be sent
marks_send : IsSend Marks.the_row
marks_send = search (mark_list_send, crosses, sendable) depth 20

-- lists of corners may be sent
corners_send : IsSend CornerLists.the_row
corners_send = search (crosses, sendable) depth 20

-- lists of long faces may be sent
long_send : IsSend LongFaces.the_row
long_send = search (crosses, sendable) depth 20

-- face tables may be sent
table_send : IsSend FaceTable.the_row
table_send = search (corners_send, long_send, crosses, sendable) depth 20

-- face counts may be sent
counts_send : IsSend FaceCounts.the_row
counts_send = search (numbers_send, crosses, sendable) depth 20

-- fillers may be sent
fillers_send : IsSend Fillers.the_row
fillers_send = search (crosses, sendable) depth 20

-- boards may be sent
board_send : IsSend Board.the_row
board_send = search (table_send, counts_send, fillers_send, units_send, numbers_send, marks_send, crosses, sendable) depth 40

-- the board field of a state may be sent
board_field_send : IsSend Board.the_field.row
board_field_send = search (board_send, table_send, counts_send, fillers_send, units_send, numbers_send, marks_send, crosses, sendable) depth 40

-- the buffers for scores may be sent
room_send : IsSend Room.the_field.row
room_send = search (crosses, sendable) depth 20

module _ (J : RattleType) (g : Ghosts J.Denot) where
  state_send : IsSend J → IsSend (State.the_field J g).row
  state_send judge = search (board_field_send, crosses, sendable) depth 20

  -- a walker may be sent if its fields may
  pub walker_send : IsSend J → IsSend (Walker.the_field J g).row
  walker_send judge = let a = state_send judge in search (room_send, sendable) depth 20
