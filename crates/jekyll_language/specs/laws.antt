pub mod Sandboxes
