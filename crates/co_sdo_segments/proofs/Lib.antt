pub mod SubBlocks
