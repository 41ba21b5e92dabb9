pub mod Faults
pub mod FileStore
pub mod MemSink
pub mod MemStore
pub mod Sink
pub mod Started
pub mod Store
pub mod StreamSink
