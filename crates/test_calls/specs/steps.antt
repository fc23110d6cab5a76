pub mod ScopeCalls
