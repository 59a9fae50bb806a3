pub mod Computing
pub mod WatchedRun
pub mod ShownState
pub mod NumberAsPointer
