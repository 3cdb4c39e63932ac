pub mod NextChunk
