-- Everything that an operation on the table leaves as it was: the lane crate's, the queue's, the free list's and the header's.
-- Assumes nothing.
use Rattle.lane.proofs.TableLaws.{frames}
use Rattle.queues.proofs.QueueLaws.{queue_frames}
use Rattle.queues.proofs.RegistryLaws.{registry_frames}
use Rattle.queues.proofs.HeaderLaws.{header_frames}

pub ruleset ready_frames = (
  frames,
  queue_frames,
  registry_frames,
  header_frames,
)
