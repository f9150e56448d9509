pub mod AllLanes
