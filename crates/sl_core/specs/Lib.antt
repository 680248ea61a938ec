-- The core language: its definitions, in reading order.

-- the memory of a core: frames, and the values of variables
pub mod Memory
-- what a core does, as a run (`core_run`)
pub mod Meaning
-- which cores are sound (`IsSound`)
pub mod Sound
