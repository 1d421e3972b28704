mod Changes
mod Compaction
mod Gates
mod Holding
mod Prefixes
mod Pushes
