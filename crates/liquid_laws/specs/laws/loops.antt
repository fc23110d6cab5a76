pub mod Bodies
pub mod ForRuns
pub mod ForLoops
pub mod TableRuns
pub mod Tables
