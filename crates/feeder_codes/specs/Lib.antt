pub mod Recorder
